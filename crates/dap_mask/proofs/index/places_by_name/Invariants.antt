use Rattle.std.proofs.Common.{◌≡◌, ℕ, List, None, drop}
use Rattle.std.specs.List.{AllByRecursion}
use Rattle.dap_mask.specs.Index.{AreRight, AsksNot, kept_for}
use Rattle.dap_mask.specs.Rules.{rules_of}
use Rattle.dap_mask.proofs.index.places_by_name.Given as goal

-- a name without stored positions occurs in none of the rules of the kind so far
abbrev pub invariant-loop-rule : goal.invariant-loop-rule
invariant-loop-rule l = record {
  right : AreRight l.kind (rules_of l.rules) l.names;
  asked : (n : List ℕ) → kept_for l.names n ≡ None
      → AllByRecursion (AsksNot l.kind n) (rules_of (drop l.rule-index l.rules))
      → AllByRecursion (AsksNot l.kind n) (rules_of l.rules);
}
