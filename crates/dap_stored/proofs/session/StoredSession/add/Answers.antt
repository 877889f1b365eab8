use Rattle.std.proofs.Common.{◌≡◌, ◌++◌, ◌∷◌, [], List, Bool, true, false, ap, ◌∙◌, sym, subst, map}
use Rattle.std.proofs.Common.{Result, Ok, Err, OnErr, is_ok}
use Rattle.std.specs.List.{All}
use Rattle.std.specs.Prelude.{if◌then◌else◌}
use Rattle.dap_stored.specs.Heads.{IsStored, message_at}
use Rattle.dap_stored.proofs.Growth.{heads_stay, heads_pushed, messages_stay, messages_pushed}
use Rattle.dap_stored.proofs.session.StoredSession.add.Goals as goal

on_err : {T E P : Type 0} (r : Result T E) → P → OnErr r P
on_err (Ok x) p = tt
on_err (Err e) p = p

-- what holds of both lists holds of the one that is chosen
of_both : {X : Type 0} (P : List X → Type 0) (b : Bool) (xs ys new : List X)
    → new ≡ (if b then xs else ys) → P xs → P ys → P new
of_both P true xs ys new e p q = subst P (sym e) p
of_both P false xs ys new e p q = subst P (sym e) q

pub invariant_of-self : goal.invariant_of-self
invariant_of-self g c = record {
  stored = heads_stay c.args.self.now.parts c.store.new.self c.args.self.now.heads.items
      c.in_err-head.ensures.err c.args.self.now.stored;
}

pub returns-in_err-head-clause-err : goal.returns-in_err-head-clause-err
returns-in_err-head-clause-err g c =
    on_err c.from_residual.result
    (messages_stay c.args.self.now.parts c.store.new.self c.args.self.now.heads.items
    c.in_err-head.ensures.err c.args.self.now.stored)

pub invariant_of-self-2 : goal.invariant_of-self-2
invariant_of-self-2 g c =
    let old = c.args.self.now in
    let hs = old.heads.items in
    let new = c.store.new.self in
    let h = c.in_ok-head.head in
    let stores = c.in_ok-head.ensures.ok in
    record {
      stored =
          of_both (λ xs. ∥ All (IsStored new) xs ∥₁) (is_ok c.push.result) (hs ++ h ∷ []) hs
          c.push.new.self.items c.push.ensures.items
          (heads_pushed old.parts new hs h stores.grows old.stored stores.stored)
          (heads_stay old.parts new hs stores.grows old.stored);
    }

pub returns-in_err-push-clause-err : goal.returns-in_err-push-clause-err
returns-in_err-push-clause-err g c =
    let old = c.args.self.now in
    let new = c.store.new.self in
    on_err c.from_residual-in_err-push.result
    (ap (map (message_at new)) c.in_err-push.ensures.items
    ∙ messages_stay old.parts new old.heads.items c.in_ok-head.ensures.ok.grows old.stored)

pub returns-clause-ok : goal.returns-clause-ok
returns-clause-ok g c =
    let old = c.args.self.now in
    let new = c.store.new.self in
    let stores = c.in_ok-head.ensures.ok in
    ap (map (message_at new)) c.in_ok-push.ensures.items
    ∙ messages_pushed old.parts new old.heads.items c.in_ok-head.head
    (g.M.AnyMessage.sent c.args.message.now) stores.grows old.stored stores.is
