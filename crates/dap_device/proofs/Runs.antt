-- A sequence of calls that leave the file under the name unchanged.
use Rattle.std.proofs.Common.{◌≡◌, inl, inr, ⊎_elim, ℕ, ◌+◌, refl, sym, ◌∙◌, ap}
use Rattle.std.proofs.Common.{List, ◌++◌, take, drop, Some, arith}
use Rattle.std.proofs.Math.Seq.{take-add}
use Rattle.std.specs.Option.{option_map}
use Rattle.dap_device.specs.Crash.{Content, Elapses, LeavesOnly}
use Rattle.dap_device.specs.Calls.{KeepsTarget}
use Rattle.dap_device.specs.Replacing.{IsUntouched}
use Rattle.dap_device.specs.declared.file.Replaceable.{Ghosts as Replaceable}

module _ {F : Type 0} (moment : F → ℕ) (left_since : F → ℕ → Content → Type 0) where
  -- Before the first call.
  pub leaves_start : (P : Content → Type 0) (old : F)
      → ((c : Content) → left_since old (moment old) c → P c)
      → LeavesOnly moment left_since P old old
  leaves_start P old now = record {
    later = omega arith;
    each = now;
    before = λ t c le left. inl left;
  }

  -- After one more call, after which every content that a crash leaves satisfies P.
  pub leaves_more : (P : Content → Type 0) (may_leave : F → Content → Type 0) (old mid new : F)
      → LeavesOnly moment left_since P old mid → Elapses moment left_since may_leave mid new
      → ((c : Content) → may_leave new c → P c) → LeavesOnly moment left_since P old new
  leaves_more P may_leave old mid new so_far time now = record {
    later = omega (arith, so_far.later, time.later);
    each = λ c left. ⊎_elim (so_far.each c) (now c)
        (time.nothing_else (moment old) c so_far.later left);
    before = λ t c le left. ⊎_elim (so_far.before t c le) (λ here. inr (now c here))
        (time.nothing_else t c (omega (arith, le, so_far.later)) left);
  }

module _ {F : Type 0} (file : Replaceable F) where
  pub untouched_start : (old : F)
      → ((c : Content) → file.left_since old (file.moment old) c → file.may_leave old c)
      → IsUntouched file old old
  untouched_start old only_now = record {
    kept = record { same = refl; crash = λ c left. left };
    any_moment = leaves_start file.moment file.left_since (file.may_leave old) old only_now;
  }

  pub untouched_more : (old mid new : F) → IsUntouched file old mid
      → KeepsTarget file.target file.may_leave mid new
      → Elapses file.moment file.left_since file.may_leave mid new → IsUntouched file old new
  untouched_more old mid new so_far kept time =
      let crash : (c : Content) → file.may_leave new c → file.may_leave old c =
      λ c left. so_far.kept.crash c (kept.crash c left) in
      record {
        kept = record { same = kept.same ∙ so_far.kept.same; crash = crash };
        any_moment = leaves_more file.moment file.left_since (file.may_leave old) file.may_leave
            old mid new so_far.any_moment time crash;
      }

-- A write after a prefix leaves a longer prefix.
pub appended_prefix : (before after : Content) (bytes : List ℕ) (at count : ℕ)
    → before ≡ Some (take at bytes)
    → after ≡ option_map (λ written. written ++ take count (drop at bytes)) before
    → after ≡ Some (take (at + count) bytes)
appended_prefix before after bytes at count was is =
    is ∙ ap (option_map (λ written. written ++ take count (drop at bytes))) was
    ∙ ap Some (sym (take-add at count bytes))
