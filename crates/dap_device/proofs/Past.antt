-- A value is added to the earlier ones.
use Rattle.std.proofs.Common.{◌≡◌, ◌⊎◌, inl, inr, ⊎_elim, ℕ, zero, suc, ◌≤◌, refl, sym, ◌∙◌, ap}
use Rattle.std.proofs.Common.{subst, arith, List, [], ◌∷◌, ◌++◌, length, drop, map, Option, Vec}
use Rattle.std.proofs.Common.{◌<◌, length-append, slice_index_or}
use Rattle.std.specs.List.{Any}
use Rattle.std.specs.declared.alloc.Global.{Global}
use Rattle.dap_device.specs.Crash.{Elapses}
use Rattle.dap_device.specs.Calls.{content_of, MayBeRenamed}
use Rattle.dap_device.specs.CachedFile.{after_rename, CachedState, Leaves, LeavesSince, MayLeave}
use Rattle.dap_device.specs.MemoryFile.{MemoryState, MightHaveLeft}
use Rattle.dap_device.specs.Past.{OneOf}

drop_push : {X : Type 0} (t : ℕ) (past : List X) (last : X) → t ≤ length past
    → drop t (past ++ last ∷ []) ≡ drop t past ++ last ∷ []
drop_push zero past last le = refl
drop_push (suc t) [] last le = absurd (omega arith)
drop_push (suc t) (earlier ∷ past) last le = drop_push t past last (omega arith)

module _ {X : Type 0} (P : X → Type 0) where
  was_there : (past : List X) (last : X) → OneOf P past → OneOf P (past ++ last ∷ [])
  was_there [] last one = absurd one
  was_there (earlier ∷ past) last (inl here) = inl here
  was_there (earlier ∷ past) last (inr there) = inr (was_there past last there)

  last_was_there : (past : List X) (last : X) → P last → OneOf P (past ++ last ∷ [])
  last_was_there [] last is = inl is
  last_was_there (earlier ∷ past) last is = inr (last_was_there past last is)

  or_last : (past : List X) (last : X) → OneOf P (past ++ last ∷ []) → OneOf P past ⊎ P last
  or_last [] last (inl is) = inr is
  or_last [] last (inr none) = absurd none
  or_last (earlier ∷ past) last (inl here) = inl (inl here)
  or_last (earlier ∷ past) last (inr there) =
      ⊎_elim (λ had. inl (inr had)) (λ is. inr is) (or_last past last there)

  one_from : (xs : List X) (k : ℕ) (x : X) → k < length xs → slice_index_or xs k x ≡ x → P x
      → OneOf P xs
  one_from [] k x lt is p = absurd (omega arith)
  one_from (y ∷ ys) zero x lt is p = inl (subst P (sym is) p)
  one_from (y ∷ ys) (suc k) x lt is p = inr (one_from ys k x (omega arith) is p)

  pub one_from_any : (xs : List X) → Any P xs → OneOf P xs
  one_from_any xs any = one_from xs any.0 any.1 any.2 any.3 any.4

  pub any_from_one : (xs : List X) → OneOf P xs → Any P xs
  any_from_one [] one = absurd one
  any_from_one (y ∷ ys) (inl here) = (0, y, omega arith, refl, here)
  any_from_one (y ∷ ys) (inr there) =
      let any = any_from_one ys there in
      (suc any.0, any.1, omega (arith, any.2), any.3, any.4)

  -- The current value became an earlier one.
  module _ (past after : List X) (last : X) (pushed : after ≡ past ++ last ∷ []) (t : ℕ)
      (le : t ≤ length past) where
    since : drop t after ≡ drop t past ++ last ∷ []
    since = ap (drop t) pushed ∙ drop_push t past last le

    was_or_is : (new : X) → P new ⊎ OneOf P (drop t after)
        → (P last ⊎ OneOf P (drop t past)) ⊎ P new
    was_or_is new (inl now) = inr now
    was_or_is new (inr had) =
        let one : OneOf P (drop t past) ⊎ P last =
        or_last (drop t past) last (subst (OneOf P) since had) in
        inl (⊎_elim (λ earlier. inr earlier) (λ is. inl is) one)

    still : (new : X) → P last ⊎ OneOf P (drop t past) → P new ⊎ OneOf P (drop t after)
    still new (inl now) = inr (subst (OneOf P) (sym since) (last_was_there (drop t past) last now))
    still new (inr had) = inr (subst (OneOf P) (sym since) (was_there (drop t past) last had))

-- The target of a file in memory changed once.
module _ (old new : MemoryState) (pushed : new.past ≡ old.past ++ old.target ∷ []) where
  pub elapses_push : Elapses (λ m. length m.past) MightHaveLeft (λ m c. c ≡ m.target) old new
  elapses_push = record {
    later = omega (arith, ap length pushed, length-append old.past (old.target ∷ []));
    nothing_else = λ t c le left. was_or_is (λ earlier. c ≡ earlier) old.past new.past old.target
        pushed t le new.target left;
    keeps = λ t c le left. still (λ earlier. c ≡ earlier) old.past new.past old.target pushed t le
        new.target left;
  }

-- The temporary file of a file over a cache was renamed.
module _ (old new : CachedState) (is : new ≡ after_rename old)
    (few : old.settled ≤ length old.past) where
  pushed : new.past ≡ old.past ++ old.target ∷ []
  pushed = ap (λ (m : CachedState). m.past) is

  same : new.settled ≡ old.settled
  same = ap (λ (m : CachedState). m.settled) is

  pub leaves_rename : MayBeRenamed MayLeave (λ m. Leaves m.temporary) old new
  leaves_rename c left =
      ⊎_elim (λ was. inl was)
      (λ now. inr (subst (λ (m : CachedState). Leaves m.target c) is now))
      (was_or_is (λ v. Leaves v c) old.past new.past old.target pushed old.settled few new.target
      (subst (λ t. LeavesSince new t c) same left))

  pub elapses_rename : Elapses (λ m. m.settled) LeavesSince MayLeave old new
  elapses_rename = record {
    later = omega (arith, same);
    nothing_else = λ t c le left. ⊎_elim (λ was. inl was) (λ now. inr (inl now))
        (was_or_is (λ v. Leaves v c) old.past new.past old.target pushed t (omega (arith, le, few))
        new.target left);
    keeps = λ t c le left. still (λ v. Leaves v c) old.past new.past old.target pushed t
        (omega (arith, le, few)) new.target left;
  }

pub map_push : (past : List (Option (Vec ℕ Global))) (last : Option (Vec ℕ Global))
    → map content_of (past ++ last ∷ []) ≡ map content_of past ++ content_of last ∷ []
map_push [] last = refl
map_push (earlier ∷ past) last = ap (λ l. content_of earlier ∷ l) (map_push past last)
