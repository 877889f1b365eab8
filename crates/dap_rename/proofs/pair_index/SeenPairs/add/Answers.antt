use Rattle.std.proofs.Common.{rules, ◌≡◌, ◌∙◌, ap, not}
use Rattle.dap_rename.specs.PairIndex.{key}
use Rattle.dap_rename.specs.Pairs.{class_of, is_taken, is_given}
use Rattle.dap_rename.proofs.PairIndexing.{was_there, number_push}
use Rattle.dap_rename.proofs.pair_index.SeenPairs.add.Goals as goal

pub returns-then-not-branch : goal.returns-then-not-branch
returns-then-not-branch c = λ before h place.
    let p = c.args.pair.now in
    let from : c.key-from.result ≡ key (class_of p) p.from = search rules in
    let taken : is_taken before p ≡ not c.in_ok-insert.field-0 =
    was_there c.args.self.now.taken (λ q. q.from) before p h.taken c.key-from.result
    c.in_ok-insert.field-0 from c.in_ok-insert.ensures.added in
    (place, search rules, search rules, taken ∙ ap not c.if-not-branch.true)

pub returns-then-not-branch-2 : goal.returns-then-not-branch-2
returns-then-not-branch-2 c = λ before h place.
    let p = c.args.pair.now in
    let from : c.key-from.result ≡ key (class_of p) p.from = search rules in
    let to : c.key-to.result ≡ key (class_of p) p.to = search rules in
    let taken : is_taken before p ≡ not c.in_ok-insert.field-0 =
    was_there c.args.self.now.taken (λ q. q.from) before p h.taken c.key-from.result
    c.in_ok-insert.field-0 from c.in_ok-insert.ensures.added in
    let given : is_given before p ≡ not c.in_ok-insert-2.field-0 =
    was_there c.args.self.now.given (λ q. q.to) before p h.given c.key-to.result
    c.in_ok-insert-2.field-0 to c.in_ok-insert-2.ensures.added in (
      place,
      search rules,
      search rules,
      taken ∙ ap not c.if-not-branch.false,
      given ∙ ap not c.if-not-branch-2.true,
    )

pub returns : goal.returns
returns c = λ before h place.
    let p = c.args.pair.now in
    let from : c.key-from.result ≡ key (class_of p) p.from = search rules in
    let to : c.key-to.result ≡ key (class_of p) p.to = search rules in
    let taken : is_taken before p ≡ not c.in_ok-insert.field-0 =
    was_there c.args.self.now.taken (λ q. q.from) before p h.taken c.key-from.result
    c.in_ok-insert.field-0 from c.in_ok-insert.ensures.added in
    let given : is_given before p ≡ not c.in_ok-insert-2.field-0 =
    was_there c.args.self.now.given (λ q. q.to) before p h.given c.key-to.result
    c.in_ok-insert-2.field-0 to c.in_ok-insert-2.ensures.added in (
      (
        search rules,
        search rules,
        taken ∙ ap not c.if-not-branch.false,
        given ∙ ap not c.if-not-branch-2.false,
      ),
      record {
        taken = number_push c.args.self.now.taken (λ q. q.from) before p h.taken c.key-from.result
            c.insert.new.self from c.in_ok-insert.ensures.updates.0;
        given = number_push c.args.self.now.given (λ q. q.to) before p h.given c.key-to.result
            c.insert-2.new.self to c.in_ok-insert-2.ensures.updates.0;
      },
    )
