use Rattle.std.proofs.Common.{◌≡◌, [], ap, refl, subst, sym, ◌∙◌}
use Rattle.dap_flat.specs.Pieces.{Represents}
use Rattle.dap_mask.specs.KeptRules.{mask_of}
use Rattle.dap_naming.specs.Documents.{named_doc}
use Rattle.dap_naming.specs.Flat.{FitsNodes, NamesNodes, NoneApply}
use Rattle.dap_naming.specs.Sessions.{rules_for}
use Rattle.dap_tree.specs.Doc.{Doc}
use Rattle.dap_rules.proofs.{Declared.none_are, NamedPushes.{doc_stays, fits_none, names_none}}
use Rattle.dap_rules.proofs.masked_session.name_nodes.Goals as goal

pub returns-then-is_empty : goal.returns-then-is_empty
returns-then-is_empty c =
    let xs = (mask_of c.args.rules.now).declared in
    let nodes = c.args.nodes.now in
    let none = none_are c.declared-declared.result.now xs c.declared-declared.ensures.same
    (sym c.is_empty.ensures ∙ c.if-is_empty.true) in
    let unruled : (d : Doc) → rules_for xs d ≡ [] = λ d. ap (λ ys. rules_for ys d) none in
    record {
      names = λ d shown. names_none c.args.numbers.now xs d
          (λ f. Represents nodes (named_doc (rules_for xs d) f d)) (unruled d)
          (λ f. subst (Represents nodes) (sym (doc_stays xs d f (unruled d))) shown);
      few = λ d shown. fits_none c.args.numbers.now xs d (unruled d);
      limit = refl;
      applies = λ is d shown. unruled d;
    }

pub returns-in-Ok : goal.returns-in-Ok
returns-in-Ok c =
    let old = c.args.numbers.now in
    let nodes = c.args.nodes.now in
    let same = c.declared-declared.ensures.same in
    record {
      names = subst (λ ys. NamesNodes old c.name_flat.new.numbers ys nodes c.name_flat.new.nodes)
          same c.in-Ok.ensures.names;
      few = subst (λ ys. FitsNodes old ys nodes) same c.in-Ok.ensures.few;
      limit = c.name_flat.ensures.limit;
      applies = λ is. subst (λ ys. NoneApply ys nodes) same
          (c.in-Ok.ensures.applies (let e = is in cc));
    }
