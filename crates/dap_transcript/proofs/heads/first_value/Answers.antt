use Rattle.std.proofs.Common.{◌≡◌, ◌∙◌, Bool, bytes_eq, false, not, refl, sym, true}
use Rattle.std.proofs.lemmas.Slice.Eq.{bytes_eq-Decides}
use Rattle.dap_tree.specs.Doc.{member}
use Rattle.dap_message.proofs.Envelopes.{apart}
use Rattle.dap_transcript.proofs.HeadMembers.{none_found, value_found, value_kept, value_other}
use Rattle.dap_transcript.proofs.heads.first_value.Goals as goal

is_false : (t : Bool) → not t ≡ true → t ≡ false
is_false true h = absurd cc
is_false false h = refl

is_true : (t : Bool) → not t ≡ false → t ≡ true
is_true true h = refl
is_true false h = absurd cc

pub returns-then-ne : goal.returns-then-ne
returns-then-ne c k d ms is is_value simple =
    let key = c.args.key.now in
    let name = c.args.member.name.now in
    value_other c.args.found key name k d ms is simple
    (apart name key (is_false (bytes_eq name key) (sym c.ne.ensures ∙ c.if-ne.true)))

pub returns-then-is_some : goal.returns-then-is_some
returns-then-is_some c k d ms is is_value simple =
    value_kept c.args.found c.args.key.now k d ms (sym c.is_some.ensures ∙ c.if-is_some.true)

pub returns : goal.returns
returns c k d ms is is_value simple =
    let key = c.args.key.now in
    let name = c.args.member.name.now in
    value_found key name k c.args.member.value.now d ms is is_value simple
    ((bytes_eq-Decides name key).0 (is_true (bytes_eq name key) (sym c.ne.ensures ∙ c.if-ne.false)))
    ∙ none_found c.args.found key (member k d ms) (sym c.is_some.ensures ∙ c.if-is_some.false)
