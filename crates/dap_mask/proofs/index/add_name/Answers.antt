use Rattle.std.proofs.Common.{string_bytes, sym}
use Rattle.std.proofs.lemmas.Map.Text.{btree_map_updates_text}
use Rattle.dap_mask.specs.Rules.{rule_of, rules_of}
use Rattle.dap_mask.proofs.Indexed.{added_then, right_then}
use Rattle.dap_mask.proofs.index.add_name.Goals as goal

pub returns-clause-right : goal.returns-clause-right
returns-clause-right c = λ right.
    right_then c.args.kind (rules_of c.args.rules.now) c.in-Some.name.now c.args.names.now
    c.insert.new.self c.in_ok-places.places
    (rw c.in_ok-key.ensures.ok at (btree_map_updates_text (string_bytes c.in_ok-key.key)
    c.args.names.now c.insert.new.self _ c.in_ok-insert.ensures.updates))
    c.in_ok-places.ensures.places right

pub returns-clause-adds : goal.returns-clause-adds
returns-clause-adds c =
    added_then c.args.kind (rules_of c.args.rules.now) c.in-Some.name.now c.args.names.now
    c.insert.new.self c.in_ok-places.places
    (rw c.in_ok-key.ensures.ok at (btree_map_updates_text (string_bytes c.in_ok-key.key)
    c.args.names.now c.insert.new.self _ c.in_ok-insert.ensures.updates))
    (rule_of c.args.rule.now) (sym c.in-Some.ensures)
