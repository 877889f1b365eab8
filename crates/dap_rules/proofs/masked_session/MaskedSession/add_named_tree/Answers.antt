use Rattle.std.proofs.Common.{◌≡◌, ◌∙◌, [], Bool, List, false, not, refl, sym, true}
use Rattle.dap_mask.specs.Declarations.{Declaration}
use Rattle.dap_tree.specs.{Json.text_of, View.view}
use Rattle.dap_mask.specs.KeptRules.{mask_of}
use Rattle.dap_message.specs.Message.{Sent}
use Rattle.dap_rules.proofs.{Declared.none_are, NamedPushes.{tree_added, tree_read}}
use Rattle.dap_rules.proofs.masked_session.MaskedSession.add_named_tree.Goals as goal

pub name_tree-requires-clause-numbered : goal.name_tree-requires-clause-numbered
name_tree-requires-clause-numbered c =
    let named = c.requires.named in
    let was = named.1 in
    (c.args.limits, named.0, c.requires.sound, was.numbered)

pub count_record-requires-clause-short : goal.count_record-requires-clause-short
count_record-requires-clause-short c =
    let named = c.requires.named in
    let was = named.1 in
    was.within

pub add_tree-requires : goal.add_tree-requires
add_tree-requires c =
    let xs = (mask_of c.args.rules.now).declared in
    let read = c.requires.read in
    let named = c.requires.named in
    let e = view c.name_tree.new.tree in
    let m : Sent = record { side = c.args.side; doc = view c.args.tree } in (
      text_of e,
      tree_read c.args.limits c.requires.sound xs c.args.rules.now.list.labelled m read.0 read.1
          c.args.self.now c.name_tree.new.numbers e c.in_ok-named_len.ensures.names
          c.in_ok-named_len.ensures.few named.0 named.1,
    )

off : (xs : List Declaration) (test : Bool) → (test ≡ true → xs ≡ []) → not test ≡ false → xs ≡ []
off xs true none unset = none refl
off xs false none unset = absurd (let e = unset in cc)

pub returns : goal.returns
returns c =
    let xs = (mask_of c.args.rules.now).declared in
    let read = c.requires.read in
    let e = view c.name_tree.new.tree in
    let m : Sent = record { side = c.args.side; doc = view c.args.tree } in
    tree_added c.args.limits c.requires.sound xs c.args.rules.now.list.labelled m read.0 read.1
    c.args.self.now c.name_tree.new.numbers e c.in_ok-named_len.ensures.names
    c.in_ok-named_len.ensures.few (not c.is_empty-ruled.result)
    (off xs c.is_empty-ruled.result
    (λ none. none_are c.declared.result.now xs c.declared.ensures.same
    (sym c.is_empty-ruled.ensures ∙ none)))
    c.name_tree.ensures.limit c.args.number c.in-Ok.named_bytes
    (λ n is. c.in-Ok.ensures.counts n (is ∙ c.in_ok-named_len.ensures.len)) c.add_tree.new.self
    c.in-Ok-add_tree.ensures
