use Rattle.std.proofs.Common.{◌≡◌, ◌∙◌, ◌++◌, [], ap, length, refl, subst, sym, vec_len}
use Rattle.dap_tree.specs.{Json.text_of, View.view}
use Rattle.dap_tree.specs.declared.side.Side.TheVariants.{Client}
use Rattle.dap_tree.proofs.Outcomes.{read_is_plain}
use Rattle.dap_message.specs.Message.{Sent}
use Rattle.dap_mask.specs.KeptRules.{mask_of}
use Rattle.dap_naming.specs.Documents.{named_doc}
use Rattle.dap_naming.specs.Known.{FitsLimit, NamesDoc}
use Rattle.dap_naming.specs.Sessions.{rules_for}
use Rattle.dap_rules.proofs.{Declared.none_are, NamedPushes.{doc_stays, fits_none, names_none}}
use Rattle.dap_rules.proofs.NamedRecords.{can_be_written, own_ids}
use Rattle.dap_rules.proofs.masked_session.name_tree.Goals as goal

pub returns-then-is_empty : goal.returns-then-is_empty
returns-then-is_empty c =
    let xs = (mask_of c.args.rules.now).declared in
    let d = view c.args.tree.now in
    let none = none_are c.declared-declared.result.now xs c.declared-declared.ensures.same
    (sym c.is_empty.ensures ∙ c.if-is_empty.true) in
    let unruled : rules_for xs d ≡ [] = ap (λ ys. rules_for ys d) none in
    record {
      names = names_none c.args.numbers.now xs d (λ f. d ≡ named_doc (rules_for xs d) f d) unruled
          (λ f. sym (doc_stays xs d f unruled));
      few = fits_none c.args.numbers.now xs d unruled;
      limit = refl;
      len = c.requires.len;
    }

pub write_tree_to-requires : goal.write_tree_to-requires
write_tree_to-requires c =
    let xs = (mask_of c.args.rules.now).declared in
    let d = view c.args.tree.now in
    let e = view c.name_message.new.tree in
    let old = c.args.numbers.now in
    let new = c.name_message.new.numbers in
    let was = c.requires.numbered in
    let read = c.requires.read in
    let m : Sent = record { side = Client; doc = d } in
    let names : NamesDoc old new (rules_for xs d) d e =
    subst (λ ys. NamesDoc old new (rules_for ys d) d e) c.declared-declared.ensures.same
    c.in-Ok.ensures.names in
    let fit : FitsLimit old (own_ids xs d) =
    subst (λ ys. FitsLimit old (own_ids ys d)) c.declared-declared.ensures.same
    c.in-Ok.ensures.few in
    can_be_written was.0 xs was.1 m old new e was.3 names fit was.2
    (read_is_plain read.0 d read.1)

pub returns : goal.returns
returns c =
    let d = view c.args.tree.now in
    let e = view c.name_message.new.tree in
    let old = c.args.numbers.now in
    let same = c.declared-declared.ensures.same in
    let len : vec_len c.write_tree_to.new.out ≡ length c.write_tree_to.new.out.items = search in
    let text : c.write_tree_to.new.out.items ≡ text_of e =
    c.in-Ok-write_tree_to.ensures.text ∙ ap (λ t. t ++ text_of e) c.new-text.ensures.items in
    record {
      names = subst (λ ys. NamesDoc old c.name_message.new.numbers (rules_for ys d) d e) same
          c.in-Ok.ensures.names;
      few = subst (λ ys. FitsLimit old (own_ids ys d)) same c.in-Ok.ensures.few;
      limit = c.name_message.ensures.limit;
      len = sym (c.len.ensures ∙ len ∙ ap length text);
    }
