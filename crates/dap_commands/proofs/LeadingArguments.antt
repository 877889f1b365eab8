-- The kinds of errors that leading arguments decide are those that the parser finds, whatever
-- arguments follow.
use Rattle.std.proofs.Common.{◌≡◌, ◌≢◌, ◌∙◌, ◌++◌, cond, false, List, [], ◌∷◌, Option, Some, None}
use Rattle.std.proofs.Common.{ap, refl, subst, sym}
use Rattle.std.proofs.lemmas.List.Sums.{fold-append}
use Rattle.std.specs.List.{find, fold}
use Rattle.std.specs.Option.{option_map_or}
use Rattle.clap.proofs.FaultLemmas.{stopped_fault}
use Rattle.clap.proofs.WalkLemmas.{walk_stopped}
use Rattle.clap.specs.Faults.{built_fault, entered_fault, fault_of, level_fault, turn_fault}
use Rattle.clap.specs.Faults.{walk_fault}
use Rattle.clap.specs.Kinds.{Kinds, or_else}
use Rattle.clap.specs.Simple.{App, Shape, built, label_of, names_of}
use Rattle.clap.specs.Walk.{Names, Text, Walk, answers_to, nothing_held, walk_from, walked}
use Rattle.dap_commands.specs.Arguments.{program_with}
use Rattle.dap_commands.specs.LeadingArguments.{FirstDecides, built_kinds, subcommand_kinds}

-- ---- kinds

or_else_assoc : (a b c : Kinds) → or_else (or_else a b) c ≡ or_else a (or_else b c)
or_else_assoc [] b c = refl
or_else_assoc (k ∷ ks) b c = refl

-- The first steps of all decide the kinds, if they find one.
decides : (first next all rest : Kinds) → all ≡ or_else first next → first ≢ []
    → or_else all rest ≡ first
decides [] next all rest is some = absurd (some refl)
decides (k ∷ ks) next all rest is some = ap (λ kinds. or_else kinds rest) is

-- The same with the first steps of a subcommand, after which the command itself finds nothing.
joined : (first next all below step rest : Kinds) → all ≡ or_else first next
    → (below ≢ [] → (next ≡ []) × (step ≡ below)) → or_else first below ≢ []
    → or_else all (or_else step rest) ≡ or_else first below
joined (k ∷ ks) next all below step rest is later some =
    ap (λ kinds. or_else kinds (or_else step rest)) is
joined [] next all [] step rest is later some = absurd (some refl)
joined [] next all (k ∷ ks) step rest is later some =
    ap (λ kinds. or_else kinds (or_else step rest)) (is ∙ (later some).0)
    ∙ ap (λ kinds. or_else kinds rest) (later some).1

-- ---- a walk over more arguments

walk_append : (s : Shape) (names : Names) (words more : List Text) (w : Walk)
    → walk_fault s names w (words ++ more) ≡ or_else (walk_fault s names w words)
    (walk_fault s names (fold (walked s.rules names) w words) more)
unfolding walk_fault
walk_append s names [] more w = refl
walk_append s names (word ∷ words) more w =
    ap (or_else (turn_fault s names w word))
    (walk_append s names words more (walked s.rules names w word))
    ∙ sym (or_else_assoc (turn_fault s names w word) _ _)

-- ---- both levels

module _ (a : App) (more : List Text) where
  abbrev start : Walk
  start = walk_from nothing_held

  abbrev after : List Text → Walk
  after = fold (walked a.top.rules (names_of a)) start

  below : (words : List Text) (found : Option Shape)
      → option_map_or (λ s. walk_fault s [] start words) found [] ≢ []
      → option_map_or (λ s. level_fault s [] nothing_held (words ++ more) false []) found []
      ≡ option_map_or (λ s. walk_fault s [] start words) found []
  below words None some = refl
  below words (Some s) some = decides _ _ _ _ (walk_append s [] words more start) some

  -- The subcommand receives all further arguments, and the command itself finds no further error.
  by_stop : (words : List Text) (stop : Option (Text × List Text)) → (after words).stopped ≡ stop
      → subcommand_kinds a stop ≢ [] → (walk_fault a.top (names_of a) (after words) more ≡ [])
      × (entered_fault a (after (words ++ more)).stopped ≡ subcommand_kinds a stop)
  by_stop words None is some = absurd (some refl)
  by_stop words (Some p) is some =
      let w = after words in
      let at = ap (λ stop. record w { stopped = stop }) is in (
        ap (λ w. walk_fault a.top (names_of a) w more) at
            ∙ stopped_fault a.top (names_of a) w p more,
        ap (λ (w : Walk). entered_fault a w.stopped) (fold-append _ start words more
            ∙ ap (λ w. fold (walked a.top.rules (names_of a)) w more) at
            ∙ sym (walk_stopped a.top.rules (names_of a) w p.0 p.1 more))
            ∙ below p.1 (find (λ s. answers_to p.0 (label_of s)) a.subs) some,
      )

  built_decides : (words : List Text) → built_kinds a words ≢ []
      → built_fault a nothing_held (words ++ more) ≡ built_kinds a words
  built_decides words some =
      joined _ _ _ _ _ _ (walk_append a.top (names_of a) words more start)
      (by_stop words _ refl) some

-- A property of the kinds that the parser finds also holds for those that leading arguments decide.
pub first_decides : (subs : List Shape) (words : List Text) (P : Kinds → Type 0)
    → P (fault_of (program_with subs) words) → FirstDecides (program_with subs) words P
unfolding walk_fault
first_decides subs words P found [] rest is some = absurd (some refl)
first_decides subs words P found (name ∷ front) rest is some =
    let a = program_with subs in
    subst P (ap (fault_of a) is ∙ built_decides (built a) rest front some) found
