-- The result of the parser for a line is correct by the grammar. With the converse, the parser and
-- the grammar agree.
use Rattle.std.proofs.Common.{◌≡◌, ℕ, Bool, true, false, cond, ◌==◌, List, [], ◌∷◌, ◌++◌, Option}
use Rattle.std.proofs.Common.{Some, None, option_map, option_and_then, refl, sym, ap, ap₂, ◌∙◌}
use Rattle.std.proofs.Common.{subst, true≢false, bytes_eq}
use Rattle.std.proofs.lemmas.Bool.{eqb-true}
use Rattle.std.proofs.lemmas.Option.{none-some, same_Some}
use Rattle.std.specs.Prelude.{codes}
use Rattle.dap_tree.proofs.Booleans.{and_left, and_right}
use Rattle.dap_profile.specs.declared.profile.Kind.{Kind}
use Rattle.dap_profile.specs.declared.profile.Kind.TheVariants.{Request, Response, Event}
use Rattle.dap_mask.specs.Grammar.{IsGap, GoesOn, HasWords, IsName, IsNameOrAny, IsPlace, verb_word}
use Rattle.dap_mask.specs.Grammar.{kind_word, AreCategoryWords, AreWordsOfRule, AreWordsOf}
use Rattle.dap_mask.specs.Grammar.{SaysRule, Says}
use Rattle.dap_mask.specs.Categories.{CategoryRule, output_name}
use Rattle.dap_mask.specs.Declarations.{Declaration}
use Rattle.dap_mask.specs.Mask.{Statement, change, leave_out, leave_out_category, swap, restart}
use Rattle.dap_mask.specs.Mask.{join, put, fill, omit, declare, Line, nothing, rule, bad}
use Rattle.dap_mask.specs.Fills.{Fill}
use Rattle.dap_mask.specs.RuleSteps.{RuleStep}
use Rattle.dap_mask.specs.RuleText.{name_at, place_at, verb_named, Head, head_at, text_behind}
use Rattle.dap_mask.specs.RuleText.{category_at, limit_from, limit_at, placed, place_behind}
use Rattle.dap_mask.specs.RuleText.{change_behind, labelled, label_at, change_at, with_category}
use Rattle.dap_mask.specs.RuleText.{category_behind, dropped_at, leave_out_at, half_at, swap_with}
use Rattle.dap_mask.specs.RuleText.{swap_at, restart_at, is_output, join_ended, join_stops}
use Rattle.dap_mask.specs.RuleText.{joined_at, join_at, part_at, word_with, put_at, statement_at}
use Rattle.dap_mask.specs.RuleText.{value_at, split_last, valued, value_behind, fill_behind}
use Rattle.dap_mask.specs.RuleText.{fill_at, omission_behind, omit_at, reported, line_said}
use Rattle.dap_words.specs.Words.{Pair}
use Rattle.dap_mask.specs.Rules.{Rule, same_kind, same_name}
use Rattle.dap_mask.specs.Runs.{is_blank, is_plain, front, behind, gap, is_end}
use Rattle.dap_message.specs.SwapRules.{Half, SwapRule}
use Rattle.dap_mask.specs.declared.joining.Joining.TheVariants.{Whole, PerStop}
use Rattle.dap_mask.specs.declared.rules.Verb.{Verb}
use Rattle.dap_mask.proofs.Blanks.{run_split, run_all, gap_found, end_read, end_found}
use Rattle.dap_mask.proofs.Options.{mapped, bound, if_true}
use Rattle.dap_mask.proofs.Parsing.{change_on, of_category, stated_by, leave_out_on, category_on}
use Rattle.dap_mask.proofs.Parsing.{half_on, swap_on, join_on, put_on, fill_on, omit_on, rule_read}
use Rattle.dap_mask.proofs.Values.{value_found as scalar_found, last_found}
use Rattle.dap_mask.proofs.ParsedParts.{NameRest, AnyRest, name_found, place_found, same_word}
use Rattle.dap_mask.proofs.ParsedParts.{verb_found, HasHead, head_found, head_goes}

-- ---- rules

-- the words of a rule after its first word
abbrev HasRule : List ℕ → List ℕ → Statement → Type 0
HasRule w s st = (ws : List (List ℕ)) × GoesOn ws s × AreWordsOf (w ∷ ws) st

same_event : (k : Kind) → same_kind k Event ≡ true → k ≡ Event
same_event Request h = absurd (true≢false (sym h))
same_event Response h = absurd (true≢false (sym h))
same_event Event h = refl

value_found : (s name rest : List ℕ) → text_behind s ≡ Some (name, rest)
    → (t : List ℕ) × (s ≡ 61 ∷ (t ++ rest)) × IsName t name
value_found [] name rest h = absurd (none-some {A = NameRest} (name, rest) h)
value_found (b ∷ s) name rest h =
    let i = if_true {A = NameRest} (b == 61) (name_at s) (name, rest) h in
    let f = name_found s name rest i.1 in
    (f.0, ap₂ (λ x t. x ∷ t) (eqb-true b 61 i.0) f.1, f.2)

category_found : (s name rest : List ℕ) → category_at s ≡ Some (name, rest)
    → (t : List ℕ) × (s ≡ (codes "category=" ++ t) ++ rest) × IsName t name
category_found s name rest h =
    let word = front is_plain s in
    let i = if_true {A = NameRest} (bytes_eq word (codes "category"))
    (text_behind (behind is_plain s)) (name, rest) h in
    let f = value_found (behind is_plain s) name rest i.1 in (
      f.0,
      run_split is_plain s ∙ ap₂ (λ v t. v ++ t) (same_word word (codes "category") i.0) f.1,
      f.2,
    )

-- the words of the category of a rule and of its place, and other words, after a head
abbrev HasLimit : Kind → Option (List ℕ) → List ℕ → List (List ℕ) → List ℕ → Type 0
HasLimit k c p ws s =
    (cs : List (List ℕ)) × GoesOn (cs ++ p ∷ ws) s × AreCategoryWords k c cs

-- a word after blanks, before other words
word_goes : (w g t rest s : List ℕ) (ws : List (List ℕ)) → s ≡ g ++ t → IsGap g → t ≡ w ++ rest
    → GoesOn ws rest → GoesOn (w ∷ ws) s
word_goes w g t rest s ws is gapped next on =
    (g, rest, is ∙ ap (λ (x : List ℕ). g ++ x) next, gapped, on)

limit_found : (k : Kind) (o : Option NameRest) (g t s : List ℕ) (c : AnyRest) (p rest : List ℕ)
    (ws : List (List ℕ)) → category_at t ≡ o → s ≡ g ++ t → IsGap g → limit_from k t o ≡ Some c
    → c.1 ≡ p ++ rest → GoesOn ws rest → HasLimit k c.0 p ws s
limit_found k None g t s c p rest ws e is gapped h next goes =
    let same = same_Some {A = AnyRest} (None, t) c h in (
      [],
      word_goes p g t rest s ws is gapped (ap (λ (q : AnyRest). q.1) same ∙ next) goes,
      subst (λ (n : Option (List ℕ)). AreCategoryWords k n []) (ap (λ (q : AnyRest). q.0) same)
          refl,
    )
limit_found k (Some a) g t s c p rest ws e is gapped h next goes =
    let i = if_true {A = AnyRest} (same_kind k Event) (option_map (of_category a.0) (gap a.1)) c h
    in
    let m = mapped (of_category a.0) (gap a.1) c i.1 in
    let f = category_found t a.0 a.1 e in
    let more = gap_found a.1 m.0 m.1 in
    let word : List ℕ = codes "category=" ++ f.0 in
    let last : GoesOn (p ∷ ws) a.1 =
    word_goes p more.blanks m.0 rest a.1 ws more.whole more.is_gap
    (ap (λ (q : AnyRest). q.1) m.2 ∙ next) goes in (
      word ∷ [],
      word_goes word g t a.1 s (p ∷ ws) is gapped f.1 last,
      subst (λ (n : Option (List ℕ)). AreCategoryWords k n (word ∷ []))
          (ap (λ (q : AnyRest). q.0) m.2) (f.0, refl, f.2, same_event k i.0),
    )

-- the next word, which is a name
part_found : (s name rest : List ℕ) → part_at s ≡ Some (name, rest) → (n : List ℕ)
    × ((ws : List (List ℕ)) → GoesOn ws rest → GoesOn (n ∷ ws) s) × IsName n name
part_found s name rest h =
    let y = bound name_at (gap s) (name, rest) h in
    let before = gap_found s y.0 y.1 in
    let f = name_found y.0 name rest y.2 in (
      f.0,
      λ ws on. (
        before.blanks,
        rest,
        before.whole ∙ ap (λ (t : List ℕ). before.blanks ++ t) f.1,
        before.is_gap,
        on,
      ),
      f.2,
    )

-- the words after a place, and the rule that they state
abbrev HasOthers : Rule → List ℕ → Statement → Type 0
HasOthers r s st = (others : List (List ℕ)) × GoesOn others s
    × ((ws : List (List ℕ)) → AreWordsOfRule ws r others → AreWordsOf ws st)

stated_found : (r : Rule) (s : List ℕ) (ended : Bool) → is_end s ≡ ended → (st : Statement)
    → stated_by r s ended ≡ Some st → HasOthers r s st
stated_found r s true e st h =
    ([], end_found s e, λ ws f. subst (AreWordsOf ws) (same_Some (change r) st h) f)
stated_found r s false e st h =
    let y = bound (label_at r) (gap s) st h in
    let before = gap_found s y.0 y.1 in
    let word = front is_plain y.0 in
    let rest = behind is_plain y.0 in
    let i = if_true (bytes_eq word (codes "as")) (option_and_then (labelled r) (part_at rest)) st
    y.2 in
    let q = bound (labelled r) (part_at rest) st i.1 in
    let x : Declaration = record { rule = r; label = q.0.0 } in
    let j = if_true (is_end q.0.1) (Some (declare x)) st q.2 in
    let text : y.0 ≡ codes "as" ++ rest =
    run_split is_plain y.0
    ∙ ap (λ (v : List ℕ). v ++ rest) (same_word word (codes "as") i.0) in
    let a = part_found rest q.0.0 q.0.1 q.1 in (
      codes "as" ∷ a.0 ∷ [],
      word_goes (codes "as") before.blanks y.0 rest s (a.0 ∷ []) before.whole before.is_gap text
          (a.1 [] (end_found q.0.1 j.0)),
      λ ws f. subst (AreWordsOf ws) (same_Some (declare x) st j.1) (a.0, f, a.2),
    )

change_found : (v : Verb) (s : List ℕ) (st : Statement) → change_at v s ≡ Some st
    → HasRule (verb_word v) s st
change_found v s st e =
    let u = bound (change_on v) (head_at s) st e in
    let y = bound (change_behind v u.0.0 u.0.1) (gap u.0.2) st u.2 in
    let c = bound (place_behind v u.0.0 u.0.1) (limit_at u.0.0 y.0) st y.2 in
    let q = bound (placed v u.0.0 u.0.1 c.0.0) (place_at c.0.1) st c.2 in
    let r : Rule =
    record { verb = v; kind = u.0.0; name = u.0.1; category = c.0.0; place = q.0.0 } in
    let others = stated_found r q.0.1 (is_end q.0.1) refl st q.2 in
    let head = head_found s u.0 u.1 in
    let before = gap_found u.0.2 y.0 y.1 in
    let p = place_found c.0.1 q.0.0 q.0.1 q.1 in
    let limit = limit_found u.0.0 (category_at y.0) before.blanks y.0 u.0.2 c.0 p.0 q.0.1 others.0
    refl before.whole before.is_gap c.1 p.1 others.1 in
    let ws = limit.0 ++ p.0 ∷ others.0 in (
      kind_word u.0.0 ∷ head.2 ∷ ws,
      head_goes s u.0 ws head limit.1,
      others.2 (verb_word v ∷ kind_word u.0.0 ∷ head.2 ∷ ws)
          (head.2, limit.0, p.0, refl, head.6, limit.2, p.2),
    )

-- the words of a rule for events, before other words
event_goes : (s : List ℕ) (u : Head) (ws : List (List ℕ)) (f : HasHead s u) → u.0 ≡ Event
    → GoesOn ws u.2 → GoesOn (codes "event" ∷ f.2 ∷ ws) s
event_goes s u ws f event on =
    subst (λ (k : Kind). GoesOn (kind_word k ∷ f.2 ∷ ws) s) event (head_goes s u ws f on)

dropped_found : (s : List ℕ) (u : Head) (head : HasHead s u) → u.0 ≡ Event → (ended : Bool)
    → is_end u.2 ≡ ended → (st : Statement)
    → cond ended (Some (leave_out u.1)) (category_behind u.1 u.2) ≡ Some st
    → HasRule (codes "drop") s st
dropped_found s u head event true e st h = (
  codes "event" ∷ head.2 ∷ [],
  event_goes s u [] head event (end_found u.2 e),
  subst (AreWordsOf (codes "drop" ∷ codes "event" ∷ head.2 ∷ []))
      (same_Some (leave_out u.1) st h) (head.2, refl, head.6),
)
dropped_found s u head event false e st h =
    let y = bound (category_on u.1) (gap u.2) st h in
    let q = bound (with_category u.1) (category_at y.0) st y.2 in
    let r : CategoryRule = record { name = u.1; category = q.0.0 } in
    let i = if_true (is_end q.0.1) (Some (leave_out_category r)) st q.2 in
    let before = gap_found u.2 y.0 y.1 in
    let c = category_found y.0 q.0.0 q.0.1 q.1 in
    let word : List ℕ = codes "category=" ++ c.0 in
    let on : GoesOn (word ∷ []) u.2 = (
      before.blanks,
      q.0.1,
      before.whole ∙ ap (λ (t : List ℕ). before.blanks ++ t) c.1,
      before.is_gap,
      end_found q.0.1 i.0,
    ) in (
      codes "event" ∷ head.2 ∷ word ∷ [],
      event_goes s u (word ∷ []) head event on,
      subst (AreWordsOf (codes "drop" ∷ codes "event" ∷ head.2 ∷ word ∷ []))
          (same_Some (leave_out_category r) st i.1) (head.2, c.0, refl, head.6, c.2),
    )

leave_out_found : (s : List ℕ) (st : Statement) → leave_out_at s ≡ Some st
    → HasRule (codes "drop") s st
leave_out_found s st e =
    let u = bound leave_out_on (head_at s) st e in
    let i = if_true (same_kind u.0.0 Event) (dropped_at u.0.1 u.0.2) st u.2 in
    dropped_found s u.0 (head_found s u.0 u.1) (same_event u.0.0 i.0) (is_end u.0.2) refl st i.1

half_found : (s : List ℕ) (a : Half × List ℕ) → half_at s ≡ Some a
    → HasHead s (a.0.kind, a.0.name, a.1)
half_found s a e =
    let m = mapped half_on (head_at s) a e in
    subst (λ (b : Half × List ℕ). HasHead s (b.0.kind, b.0.name, b.1)) m.2
    (head_found s m.0 m.1)

swap_found : (s : List ℕ) (st : Statement) → swap_at s ≡ Some st → HasRule (codes "swap") s st
swap_found s st e =
    let a = bound swap_on (half_at s) st e in
    let b = bound (swap_with a.0.0) (half_at a.0.1) st a.2 in
    let r : SwapRule = record { one = a.0.0; another = b.0.0 } in
    let i = if_true (is_end b.0.1) (Some (swap r)) st b.2 in
    let one = half_found s a.0 a.1 in
    let another = half_found a.0.1 b.0 b.1 in
    let last = head_goes a.0.1 (r.another.kind, r.another.name, b.0.1) [] another
    (end_found b.0.1 i.0) in
    let ws = kind_word r.another.kind ∷ another.2 ∷ [] in (
      kind_word r.one.kind ∷ one.2 ∷ ws,
      head_goes s (r.one.kind, r.one.name, a.0.1) ws one last,
      subst (AreWordsOf (codes "swap" ∷ kind_word r.one.kind ∷ one.2 ∷ ws))
          (same_Some (swap r) st i.1) (one.2, another.2, refl, one.6, another.6),
    )

restart_found : (s : List ℕ) (st : Statement) → restart_at s ≡ Some st
    → HasRule (codes "per-stop") s st
restart_found s st e =
    let i = if_true (is_end s) (Some restart) st e in (
      [],
      end_found s i.0,
      subst (AreWordsOf (codes "per-stop" ∷ [])) (same_Some restart st i.1) refl,
    )

same_output : (n : Option (List ℕ)) → same_name n (Some output_name) ≡ true
    → n ≡ Some output_name
same_output None h = absurd (true≢false (sym h))
same_output (Some m) h = ap Some (same_word m output_name h)

joined_found : (s : List ℕ) (u : Head) (head : HasHead s u) → u.0 ≡ Event
    → u.1 ≡ Some output_name → (ended : Bool) → is_end u.2 ≡ ended → (st : Statement)
    → cond ended (Some (join Whole)) (option_and_then join_stops (gap u.2)) ≡ Some st
    → HasRule (codes "join") s st
joined_found s u head event called true e st h = (
  codes "event" ∷ head.2 ∷ [],
  event_goes s u [] head event (end_found u.2 e),
  subst (AreWordsOf (codes "join" ∷ codes "event" ∷ head.2 ∷ []))
      (same_Some (join Whole) st h) (head.2, refl, subst (IsNameOrAny head.2) called head.6),
)
joined_found s u head event called false e st h =
    let y = bound join_stops (gap u.2) st h in
    let before = gap_found u.2 y.0 y.1 in
    let word = front is_plain y.0 in
    let rest = behind is_plain y.0 in
    let i = if_true (bytes_eq word (codes "per-stop")) (join_ended rest) st y.2 in
    let q = if_true (is_end rest) (Some (join PerStop)) st i.1 in
    let text : y.0 ≡ codes "per-stop" ++ rest =
    run_split is_plain y.0
    ∙ ap (λ (v : List ℕ). v ++ rest) (same_word word (codes "per-stop") i.0) in
    let ws : List (List ℕ) = codes "per-stop" ∷ [] in
    let on : GoesOn ws u.2 =
    word_goes (codes "per-stop") before.blanks y.0 rest u.2 [] before.whole before.is_gap text
    (end_found rest q.0) in (
      codes "event" ∷ head.2 ∷ ws,
      event_goes s u ws head event on,
      subst (AreWordsOf (codes "join" ∷ codes "event" ∷ head.2 ∷ ws))
          (same_Some (join PerStop) st q.1)
          (head.2, refl, subst (IsNameOrAny head.2) called head.6),
    )

join_found : (s : List ℕ) (st : Statement) → join_at s ≡ Some st → HasRule (codes "join") s st
join_found s st e =
    let u = bound join_on (head_at s) st e in
    let event = same_kind u.0.0 Event in
    let called = same_name u.0.1 (Some output_name) in
    let i = if_true (is_output u.0.0 u.0.1) (joined_at u.0.2) st u.2 in
    joined_found s u.0 (head_found s u.0 u.1) (same_event u.0.0 (and_left event called i.0))
    (same_output u.0.1 (and_right event called i.0)) (is_end u.0.2) refl st i.1

put_found : (s : List ℕ) (st : Statement) → put_at s ≡ Some st → HasRule (codes "word") s st
put_found s st e =
    let t = bound put_on (part_at s) st e in
    let w = bound (word_with t.0.0) (part_at t.0.1) st t.2 in
    let p : Pair = record { text = t.0.0; word = w.0.0 } in
    let i = if_true (is_end w.0.1) (Some (put p)) st w.2 in
    let a = part_found s t.0.0 t.0.1 t.1 in
    let b = part_found t.0.1 w.0.0 w.0.1 w.1 in (
      a.0 ∷ b.0 ∷ [],
      a.1 (b.0 ∷ []) (b.1 [] (end_found w.0.1 i.0)),
      subst (AreWordsOf (codes "word" ∷ a.0 ∷ b.0 ∷ [])) (same_Some (put p) st i.1)
          (a.0, b.0, refl, a.2, b.2),
    )

fill_found : (s : List ℕ) (st : Statement) → fill_at s ≡ Some st → HasRule (codes "fill") s st
fill_found s st e =
    let u = bound fill_on (head_at s) st e in
    let q = bound (fill_behind u.0.0 u.0.1) (option_and_then place_at (gap u.0.2)) st u.2 in
    let y = bound place_at (gap u.0.2) q.0 q.1 in
    let l = bound (value_behind u.0.0 u.0.1 q.0.1) (split_last q.0.0) st q.2 in
    let v = bound (valued u.0.0 u.0.1 l.0) (option_and_then value_at (gap q.0.1)) st l.2 in
    let z = bound value_at (gap q.0.1) v.0 v.1 in
    let f : Fill = record {
      kind = u.0.0;
      name = u.0.1;
      parent = l.0.0;
      last = l.0.1;
      value = v.0.0;
    } in
    let i = if_true (is_end v.0.1) (Some (fill f)) st v.2 in
    let head = head_found s u.0 u.1 in
    let before = gap_found u.0.2 y.0 y.1 in
    let after = gap_found q.0.1 z.0 z.1 in
    let p = place_found y.0 q.0.0 q.0.1 y.2 in
    let w = scalar_found z.0 v.0.0 v.0.1 z.2 in
    let last : GoesOn (w.0 ∷ []) q.0.1 =
    word_goes w.0 after.blanks z.0 v.0.1 q.0.1 [] after.whole after.is_gap w.1
    (end_found v.0.1 i.0) in
    let ws = p.0 ∷ w.0 ∷ [] in (
      kind_word u.0.0 ∷ head.2 ∷ ws,
      head_goes s u.0 ws head
          (word_goes p.0 before.blanks y.0 q.0.1 u.0.2 (w.0 ∷ []) before.whole before.is_gap p.1
          last),
      subst (AreWordsOf (codes "fill" ∷ kind_word u.0.0 ∷ head.2 ∷ ws))
          (same_Some (fill f) st i.1) (
            head.2,
            p.0,
            w.0,
            refl,
            head.6,
            subst (IsPlace p.0) (last_found q.0.0 l.0 l.1) p.2,
            w.2,
          ),
    )

abbrev omission_in : Kind → Option (List ℕ) → List RuleStep × RuleStep → Statement
omission_in k n r = omit (record { kind = k; name = n; parent = r.0; last = r.1 })

omit_found : (s : List ℕ) (st : Statement) → omit_at s ≡ Some st → HasRule (codes "omit") s st
omit_found s st e =
    let u = bound omit_on (head_at s) st e in
    let q = bound (omission_behind u.0.0 u.0.1) (option_and_then place_at (gap u.0.2)) st u.2 in
    let y = bound place_at (gap u.0.2) q.0 q.1 in
    let i = if_true (is_end q.0.1) (option_map (omission_in u.0.0 u.0.1) (split_last q.0.0)) st q.2
    in
    let l = mapped (omission_in u.0.0 u.0.1) (split_last q.0.0) st i.1 in
    let head = head_found s u.0 u.1 in
    let before = gap_found u.0.2 y.0 y.1 in
    let p = place_found y.0 q.0.0 q.0.1 y.2 in
    let ws = p.0 ∷ [] in (
      kind_word u.0.0 ∷ head.2 ∷ ws,
      head_goes s u.0 ws head
          (word_goes p.0 before.blanks y.0 q.0.1 u.0.2 [] before.whole before.is_gap p.1
          (end_found q.0.1 i.0)),
      subst (AreWordsOf (codes "omit" ∷ kind_word u.0.0 ∷ head.2 ∷ ws)) l.2
          (head.2, p.0, refl, head.6, subst (IsPlace p.0) (last_found q.0.0 l.0 l.1) p.2),
    )

-- ---- lines

renamed : (w v s : List ℕ) (st : Statement) → w ≡ v → HasRule v s st → HasRule w s st
renamed w v s st e f =
    (f.0, f.1, subst (λ (x : List ℕ). AreWordsOf (x ∷ f.0) st) (sym e) f.2)

abbrev verb_on : List ℕ → Verb → Option Statement
verb_on s v = change_at v s

-- whether the first word of a line is one of these
pub record FirstWord (w : List ℕ) (a b c d e g i : Bool) : Type 0 where
  pub drop : bytes_eq w (codes "drop") ≡ a
  pub swap : bytes_eq w (codes "swap") ≡ b
  pub per_stop : bytes_eq w (codes "per-stop") ≡ c
  pub join : bytes_eq w (codes "join") ≡ d
  pub word : bytes_eq w (codes "word") ≡ e
  pub fill : bytes_eq w (codes "fill") ≡ g
  pub omit : bytes_eq w (codes "omit") ≡ i

statement_is : (w s : List ℕ) (st : Statement) (a b c d e g i : Bool)
    → FirstWord w a b c d e g i
    → cond a (leave_out_at s) (cond b (swap_at s)
    (cond c (restart_at s) (cond d (join_at s)
    (cond e (put_at s) (cond g (fill_at s) (cond i (omit_at s)
    (option_and_then (verb_on s) (verb_named w))))))))
    ≡ Some st → HasRule w s st
statement_is w s st true b c d e g i f h =
    renamed w (codes "drop") s st (same_word w (codes "drop") f.drop) (leave_out_found s st h)
statement_is w s st false true c d e g i f h =
    renamed w (codes "swap") s st (same_word w (codes "swap") f.swap) (swap_found s st h)
statement_is w s st false false true d e g i f h =
    renamed w (codes "per-stop") s st (same_word w (codes "per-stop") f.per_stop)
    (restart_found s st h)
statement_is w s st false false false true e g i f h =
    renamed w (codes "join") s st (same_word w (codes "join") f.join) (join_found s st h)
statement_is w s st false false false false true g i f h =
    renamed w (codes "word") s st (same_word w (codes "word") f.word) (put_found s st h)
statement_is w s st false false false false false true i f h =
    renamed w (codes "fill") s st (same_word w (codes "fill") f.fill) (fill_found s st h)
statement_is w s st false false false false false false true f h =
    renamed w (codes "omit") s st (same_word w (codes "omit") f.omit) (omit_found s st h)
statement_is w s st false false false false false false false f h =
    let v = bound (verb_on s) (verb_named w) st h in
    renamed w (verb_word v.0) s st (verb_found w v.0 v.1) (change_found v.0 s st v.2)

rule_found : (l : List ℕ) (st : Statement) → statement_at (behind is_blank l) ≡ Some st
    → SaysRule l st
rule_found l st h =
    let text = behind is_blank l in
    let w = front is_plain text in
    let rest = behind is_plain text in
    let f = statement_is w rest st (bytes_eq w (codes "drop")) (bytes_eq w (codes "swap"))
    (bytes_eq w (codes "per-stop")) (bytes_eq w (codes "join")) (bytes_eq w (codes "word"))
    (bytes_eq w (codes "fill")) (bytes_eq w (codes "omit"))
    (record {
      drop = refl;
      swap = refl;
      per_stop = refl;
      join = refl;
      word = refl;
      fill = refl;
      omit = refl;
    }) h in
    let blanks = front is_blank l in
    let has : HasWords (w ∷ f.0) l = (
      blanks,
      rest,
      run_split is_blank l ∙ ap (λ (t : List ℕ). blanks ++ t) (run_split is_plain text),
      run_all is_blank l,
      f.1,
    ) in
    (w ∷ f.0, has, f.2)

rule_bad : (st : Statement) → rule st ≡ bad → ⊥
rule_bad st h = cc

abbrev line_if : Bool → Option Statement → Line
line_if over o = cond over nothing (reported o)

line_is : (l : List ℕ) (over : Bool) (o : Option Statement) → is_end l ≡ over
    → statement_at (behind is_blank l) ≡ o → Says l (line_if over o)
line_is l true o e f = end_found l e
line_is l false (Some st) e f = rule_found l st f
line_is l false None e f = (
  λ ended. true≢false (sym (end_read l ended) ∙ e),
  λ st says. rule_bad st (sym (rule_read l st says) ∙ ap₂ line_if e f),
)

line_found : (l : List ℕ) → Says l (line_said l)
line_found l = line_is l (is_end l) (statement_at (behind is_blank l)) refl refl

found_as : (l : List ℕ) (x : Line) → line_said l ≡ x → Says l x
found_as l x e = subst (Says l) e (line_found l)

bad_read : (l : List ℕ) (x : Line) → line_said l ≡ x → Says l bad → x ≡ bad
bad_read l nothing e says = absurd (says.0 (found_as l nothing e))
bad_read l (rule st) e says = absurd (says.1 st (found_as l (rule st) e))
bad_read l bad e says = refl

line_read : (l : List ℕ) (x : Line) → Says l x → line_said l ≡ x
line_read l nothing says =
    ap (λ (over : Bool). line_if over (statement_at (behind is_blank l))) (end_read l says)
line_read l (rule st) says = rule_read l st says
line_read l bad says = bad_read l (line_said l) refl says

-- ---- the laws

pub parser_finds_line : (l : List ℕ) (x : Line) → (line_said l ≡ x → Says l x)
    × (Says l x → line_said l ≡ x)
parser_finds_line l x = (found_as l x, line_read l x)

pub line_says_one : (l : List ℕ) (x y : Line) → Says l x → Says l y → x ≡ y
line_says_one l x y one another = sym (line_read l x one) ∙ line_read l y another
