use Rattle.std.proofs.Common.{◌≡◌, ◌∙◌, ◌++◌, ◌∷◌, [], Some, List, ℕ, slice_get}
use Rattle.std.proofs.Common.{sym, subst}
use Rattle.dap_mask.specs.Declarations.{declarations_of}
use Rattle.dap_message.specs.Message.{Sent, sent}
use Rattle.dap_stored.specs.Sessions.{messages_of}
use Rattle.dap_rules.specs.NamingSteps.{IsNamedAfter}
use Rattle.dap_rules.proofs.NamedPlaces.{get_last}
use Rattle.dap_rules.proofs.named_session.named_place.Goals as goal

-- The message at the place.
same_message : {m n : Sent} (ms : List Sent) (place : ℕ) → Some n ≡ slice_get ms place
    → slice_get ms place ≡ Some m → n ≡ m
same_message ms place one two = let e = one ∙ two in cc

pub returns : goal.returns
returns c limits before m sound was there =
    let xs = declarations_of c.args.declarations.now in
    let ms = messages_of c.args.session.now in
    let n = sent c.in_ok-named.named in
    let longer : messages_of c.push_message.new.self ≡ ms ++ n ∷ [] = c.in-Ok.ensures.ok in
    record {
      more = n ∷ [];
      longer = longer;
      named = n;
      there = subst (λ all. slice_get all c.len-at.result ≡ Some n) (sym longer)
          (subst (λ at. slice_get (ms ++ n ∷ []) at ≡ Some n) (sym c.len-at.ensures)
          (get_last ms n));
      after = subst (λ k. IsNamedAfter limits xs before k n c.named_message.new.numbers)
          (same_message ms c.args.place c.in_ok-message.ensures there)
          (c.in_ok-named.ensures.named limits before sound was);
    }
