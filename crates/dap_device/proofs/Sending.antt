-- Outputs that are written one after another, and flushed.
use Rattle.std.proofs.Common.{◌≡◌, ℕ, zero, suc, ◌+◌, ◌<◌, ◌≤◌, Bool, List, [], ◌∷◌, ◌++◌, length}
use Rattle.std.proofs.Common.{take, drop, get_or, Option, Some, None, Result, Ok, Err, sym, ◌∙◌, ap}
use Rattle.std.proofs.Common.{subst, arith}
use Rattle.std.proofs.Common.{append-nil, length-append, take-append-drop}
use Rattle.std.specs.Io.KnownBytes.{Appends, Keeps}
use Rattle.std.specs.List.{flat_map}
use Rattle.std.proofs.KnownBytes.{Appends-trans}
use Rattle.std.proofs.lemmas.List.{take-append-le, take_all, take_more}
use Rattle.std.proofs.lemmas.List.Concat.{flat_map-append}
use Rattle.std.proofs.Math.Seq.{take-append-add}
use Rattle.dap_device.specs.declared.device.DeviceFault.{DeviceFault}
use Rattle.dap_device.specs.declared.device.Sink.{Ghosts as Sink}
use Rattle.dap_device.specs.Device.{AwaitFlush, HasFlushed, HasTaken, HasTakenNothing}
use Rattle.dap_device.specs.Written.{AllWritten, PrefixWritten, HasSentAll}

-- Appending, and then leaving the bytes unchanged, appends the same bytes.
pub kept : (old mid new : Option (List ℕ)) (bs : List ℕ) → Appends old mid bs → Keeps mid new
    → Appends old new bs
kept None mid new bs first same = tt
kept (Some xs) None new bs first same = absurd first
kept (Some xs) (Some ys) None bs first same = absurd same
kept (Some xs) (Some ys) (Some zs) bs first same = same ∙ first

-- ---- whether a flush is due

module _ {S : Type 0} (unflushed : S → Bool) where
  -- If nothing was written, whether a flush is due is unchanged.
  pub nothing_awaits : (old new : S) → unflushed new ≡ unflushed old
      → AwaitFlush unflushed old new 0
  nothing_awaits old new same = record { some = λ some. absurd (omega arith); none = λ none. same }

  -- This also holds after a call that writes nothing.
  pub awaits : (old mid new : S) (count : ℕ) → AwaitFlush unflushed old mid count
      → unflushed new ≡ unflushed mid → AwaitFlush unflushed old new count
  awaits old mid new count first same = record {
    some = λ some. same ∙ first.some some;
    none = λ none. same ∙ first.none none;
  }

  -- Bytes of two outputs were written if and only if bytes of one of them were.
  pub some_of_both : (old mid new : S) (a b : ℕ) → AwaitFlush unflushed old mid a
      → AwaitFlush unflushed mid new b → AwaitFlush unflushed old new (a + b)
  some_of_both old mid new a zero first second = record {
    some = λ some. second.none (omega arith) ∙ first.some (omega arith);
    none = λ none. second.none (omega arith) ∙ first.none (omega arith);
  }
  some_of_both old mid new a (suc b) first second = record {
    some = λ some. second.some (omega arith);
    none = λ none. absurd (omega arith);
  }

module _ {S : Type 0} (sink : Sink S) where
  module _ (old mid new : S) (xs ys : List ℕ) (first : AllWritten sink old mid xs) where
    pub all_then_all : AllWritten sink mid new ys
        → AllWritten sink old new (xs ++ ys)
    all_then_all second =
        record {
          appended = Appends-trans _ _ _ _ _ first.appended second.appended;
          awaits = subst (AwaitFlush sink.unflushed old new) (sym (length-append xs ys))
              (some_of_both sink.unflushed old mid new (length xs) (length ys) first.awaits
              second.awaits);
          no_failure = second.no_failure ∙ first.no_failure;
        }

    pub all_then_front : PrefixWritten sink mid new ys
        → PrefixWritten sink old new (xs ++ ys)
    all_then_front second = record {
      count = length xs + second.count;
      within = (let fits = second.within in omega (arith, fits, length-append xs ys));
      appended = subst (Appends (sink.out old) (sink.out new))
          (sym (take-append-add xs ys second.count))
          (Appends-trans _ _ _ _ _ first.appended second.appended);
      awaits = some_of_both sink.unflushed old mid new (length xs) second.count first.awaits
          second.awaits;
      failure = second.failure ∙ ap (λ n. n + 1) first.no_failure;
    }

  -- A prefix of an output is a prefix of a longer output.
  pub front_of_longer : (old new : S) (xs ys : List ℕ) → PrefixWritten sink old new xs
      → PrefixWritten sink old new (xs ++ ys)
  front_of_longer old new xs ys front = record {
    count = front.count;
    within = (let fits = front.within in omega (arith, fits, length-append xs ys));
    appended = subst (Appends (sink.out old) (sink.out new))
        (sym (take-append-le front.count xs ys front.within)) front.appended;
    awaits = front.awaits;
    failure = front.failure;
  }

  -- A prefix of an output was written, and the next call writes nothing.
  module _ (old mid new : S) (bytes : List ℕ) (count : ℕ) (within : count ≤ length bytes)
      (front : Appends (sink.out old) (sink.out mid) (take count bytes))
      (waiting : AwaitFlush sink.unflushed old mid count)
      (good : sink.failures mid ≡ sink.failures old) where
    pub front_then_fault : HasTakenNothing sink.out sink.unflushed sink.failures mid new
        → PrefixWritten sink old new bytes
    front_then_fault nothing = record {
      count = count;
      within = within;
      appended = kept (sink.out old) (sink.out mid) (sink.out new) (take count bytes) front
          nothing.kept;
      awaits = awaits sink.unflushed old mid new count waiting nothing.awaits;
      failure = nothing.failure ∙ ap (λ n. n + 1) good;
    }

    pub front_then_none : (rest : List ℕ) (taken : ℕ) → taken ≡ 0 → 0 < length rest
        → HasTaken sink.out sink.unflushed sink.failures mid new taken rest
        → PrefixWritten sink old new bytes
    front_then_none rest taken none some took = record {
      count = count;
      within = within;
      appended = subst (Appends (sink.out old) (sink.out new))
          (ap (λ k. take count bytes ++ take k rest) none ∙ append-nil (take count bytes))
          (Appends-trans _ _ _ _ _ front took.appended);
      awaits = awaits sink.unflushed old mid new count waiting (took.awaits.none none);
      failure = took.nothing none some ∙ ap (λ n. n + 1) good;
    }

  -- An output that was written is flushed.
  pub all_then_flush : {U : Type 0} (old mid new : S) (bytes : List ℕ)
      (result : Result U DeviceFault) → AllWritten sink old mid bytes
      → HasFlushed sink.out sink.unflushed sink.failures mid new result
      → HasSentAll sink old new result bytes
  all_then_flush old mid new bytes (Ok done) all flushed =
      record {
        appended = kept (sink.out old) (sink.out mid) (sink.out new) bytes all.appended
            flushed.kept;
        flushed = flushed.flushed;
        no_failure = flushed.no_failure ∙ all.no_failure;
      }
  all_then_flush old mid new bytes (Err fault) all flushed = record {
    count = length bytes;
    within = omega arith;
    appended = subst (Appends (sink.out old) (sink.out new))
        (sym (take_all (length bytes) bytes (omega arith)))
        (kept (sink.out old) (sink.out mid) (sink.out new) bytes all.appended flushed.kept);
    awaits = awaits sink.unflushed old mid new (length bytes) all.awaits flushed.awaits;
    failure = flushed.failure ∙ ap (λ n. n + 1) all.no_failure;
  }

  -- ---- the lines of a list

  module _ {X : Type 0} (line : X
      → List ℕ) (xs : List X) (i : ℕ) (d : X) (small : i < length xs) where
    lines_more : flat_map line (take (i + 1) xs) ≡ flat_map line (take i xs) ++ line (get_or xs i d)
    lines_more =
        ap (flat_map line) (take_more xs i d small)
        ∙ flat_map-append line (take i xs) (get_or xs i d ∷ [])
        ∙ ap (λ t. flat_map line (take i xs) ++ t) (append-nil (line (get_or xs i d)))

    lines_all : flat_map line xs
        ≡ flat_map line (take (i + 1) xs) ++ flat_map line (drop (i + 1) xs)
    lines_all =
        ap (flat_map line) (sym (take-append-drop (i + 1) xs))
        ∙ flat_map-append line (take (i + 1) xs) (drop (i + 1) xs)

    module _ (old mid new : S) (bytes : List ℕ) (is : bytes
        ≡ line (get_or xs i d))
        (before : AllWritten sink old mid (flat_map line (take i xs))) where
      pub line_sent : AllWritten sink mid new bytes
          → AllWritten sink old new (flat_map line (take (i + 1) xs))
      line_sent all =
          subst (AllWritten sink old new) (sym lines_more)
          (all_then_all old mid new (flat_map line (take i xs)) (line (get_or xs i d)) before
          (subst (AllWritten sink mid new) is all))

      pub line_not_sent : PrefixWritten sink mid new bytes
          → PrefixWritten sink old new (flat_map line xs)
      line_not_sent front =
          let some = all_then_front old mid new (flat_map line (take i xs)) (line (get_or xs i d))
          before (subst (PrefixWritten sink mid new) is front) in
          subst (PrefixWritten sink old new) (sym lines_all)
          (front_of_longer old new (flat_map line (take (i + 1) xs))
          (flat_map line (drop (i + 1) xs))
          (subst (PrefixWritten sink old new) (sym lines_more) some))
