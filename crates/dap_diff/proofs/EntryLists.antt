-- The records of a list of messages, if there is one message more.
use Rattle.std.proofs.Common.{◌≡◌, ℕ, suc, ◌+◌, ◌<◌, List, [], ◌∷◌, ◌++◌, length, take, slice_get}
use Rattle.std.proofs.Common.{Some, sym, ap₂, subst, arith, length-take-le}
use Rattle.std.proofs.lemmas.Option.{slice_get_within}
use Rattle.dap_message.specs.Message.{Sent}
use Rattle.dap_rename.specs.declared.mode.Mode.{Mode}
use Rattle.dap_compare.proofs.SessionComparing.{take_push}
use Rattle.dap_diff.specs.Entries.{AreEntriesOf, IsEntryOf, stop_after}
use Rattle.dap_diff.specs.declared.entry.Entry.{Entry}

module _ {M : Type 0} (sent : M → Sent) (mode : Mode) where
  -- The records are those of the messages, and this is the last stop after them.
  abbrev pub AreUpTo : ℕ → ℕ → List Sent → List (Entry M) → ℕ → Type 0
  AreUpTo stop number [] [] last = last ≡ stop
  AreUpTo stop number [] (e ∷ es) last = ⊥
  AreUpTo stop number (m ∷ ms) [] last = ⊥
  AreUpTo stop number (m ∷ ms) (e ∷ es) last =
      IsEntryOf sent stop number m e
      × AreUpTo (stop_after mode number m stop) (suc number) ms es last

  pub are_entries : (stop number : ℕ) (ms : List Sent) (es : List (Entry M)) (last : ℕ)
      → AreUpTo stop number ms es last → AreEntriesOf sent mode stop number ms es
  are_entries stop number [] [] last are = tt
  are_entries stop number [] (e ∷ es) last are = are
  are_entries stop number (m ∷ ms) [] last are = are
  are_entries stop number (m ∷ ms) (e ∷ es) last are =
      (are.0, are_entries (stop_after mode number m stop) (suc number) ms es last are.1)

  entries_push : (stop number : ℕ) (ms : List Sent) (es : List (Entry M)) (last : ℕ) (m : Sent)
      (e : Entry M) (place : ℕ) → place ≡ length ms + number → AreUpTo stop number ms es last
      → IsEntryOf sent last place m e
      → AreUpTo stop number (ms ++ m ∷ []) (es ++ e ∷ []) (stop_after mode place m last)
  entries_push stop number [] [] last m e place at are is =
      let here : place ≡ number = omega arith in (
        subst (λ s. IsEntryOf sent s number m e) are
            (subst (λ n. IsEntryOf sent last n m e) here is),
        ap₂ (λ n s. stop_after mode n m s) here are,
      )
  entries_push stop number [] (x ∷ es) last m e place at are is = absurd are
  entries_push stop number (n ∷ ms) [] last m e place at are is = absurd are
  entries_push stop number (n ∷ ms) (x ∷ es) last m e place at are is = (
    are.0,
    entries_push (stop_after mode number n stop) (suc number) ms es last m e place (omega arith)
        are.1 is,
  )

  pub one_more : (all : List Sent) (place : ℕ) (m : Sent) (es more : List (Entry M))
      (last next : ℕ) (e : Entry M) → Some m ≡ slice_get all place
      → AreUpTo 0 1 (take place all) es last → IsEntryOf sent last (place + 1) m e
      → more ≡ es ++ e ∷ [] → next ≡ stop_after mode (place + 1) m last
      → AreUpTo 0 1 (take (place + 1) all) more next
  one_more all place m es more last next e is_at are is more_is next_is =
      let less : place < length all = slice_get_within all place m (sym is_at) in
      let count : length (take place all) ≡ place =
      length-take-le place all (omega (arith, less)) in
      subst (λ ms. AreUpTo 0 1 ms more next) (sym (take_push all place m (sym is_at)))
      (subst (λ es. AreUpTo 0 1 (take place all ++ m ∷ []) es next) (sym more_is)
      (subst (AreUpTo 0 1 (take place all ++ m ∷ []) (es ++ e ∷ [])) (sym next_is)
      (entries_push 0 1 (take place all) es last m e (place + 1) (omega (arith, count)) are is)))
