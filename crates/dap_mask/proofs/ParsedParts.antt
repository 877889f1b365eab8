-- The names, places and heads that the parser finds in a text are correct by the grammar.
use Rattle.std.proofs.Common.{◌≡◌, ℕ, suc, Bool, true, false, cond, ◌==◌, List, [], ◌∷◌, ◌++◌}
use Rattle.std.proofs.Common.{length, Option, Some, None, option_map, option_and_then, refl, sym}
use Rattle.std.proofs.Common.{ap, ap₂, ◌∙◌, subst, append_assoc, bytes_eq}
use Rattle.std.proofs.lemmas.Bool.{eqb-true}
use Rattle.std.proofs.lemmas.Option.{none-some, same_Some}
use Rattle.std.proofs.lemmas.Slice.Eq.{bytes_eq-Decides}
use Rattle.std.specs.Prelude.{zero, codes}
use Rattle.dap_profile.specs.declared.profile.Kind.{Kind}
use Rattle.dap_profile.specs.declared.profile.Kind.TheVariants.{Request, Response, Event}
use Rattle.dap_mask.specs.Grammar.{IsGap, GoesOn, IsName, bare, quoted, IsNameOrAny, AreSteps}
use Rattle.dap_mask.specs.Grammar.{IsPlace, verb_word, kind_word}
use Rattle.dap_mask.specs.RuleSteps.{RuleStep, named, elements}
use Rattle.dap_mask.specs.RuleText.{bracket_behind, called_step, quoted_at, plain_at, name_at}
use Rattle.dap_mask.specs.RuleText.{this_name, any_name, each_step, member_step, next_step}
use Rattle.dap_mask.specs.RuleText.{step_then, steps_from, place_at, verb_named, kind_named, Head}
use Rattle.dap_mask.specs.RuleText.{name_behind, kind_then, head_at}
use Rattle.dap_mask.specs.Runs.{is_plain, front, behind, gap}
use Rattle.dap_mask.specs.declared.rules.Verb.{Verb}
use Rattle.dap_mask.specs.declared.rules.Verb.TheVariants.{Blank, Digits, Hex, Long, Uuid}
use Rattle.dap_mask.proofs.Blanks.{run_split, run_all, run_begins, gap_found}
use Rattle.dap_mask.proofs.Lines.{Steps}
use Rattle.dap_mask.proofs.Options.{mapped, bound, if_true, if_false}
use Rattle.dap_mask.proofs.Parsing.{any_by, place_on, then_step, with_kind, kind_on}
use Rattle.dap_mask.proofs.Quoted.{quoted_found}

-- the result of a parser, and the rest of the text
abbrev pub NameRest : Type 0
NameRest = List ℕ × List ℕ

abbrev pub AnyRest : Type 0
AnyRest = Option (List ℕ) × List ℕ

abbrev StepRest : Type 0
StepRest = RuleStep × List ℕ

-- ---- names

abbrev HasName : List ℕ → List ℕ → List ℕ → Type 0
HasName s name rest = (n : List ℕ) × (s ≡ n ++ rest) × IsName n name

quoted_name : (b : ℕ) (s name rest : List ℕ) → b ≡ 34 → quoted_at (b ∷ s) ≡ Some (name, rest)
    → HasName (b ∷ s) name rest
quoted_name b s name rest e h =
    let first : quoted_at (34 ∷ s) ≡ Some (name, rest) =
    ap (λ (x : ℕ). quoted_at (x ∷ s)) (sym e) ∙ h in
    let q = quoted_found s name rest first in (
      34 ∷ (q.inside ++ 34 ∷ []),
      ap₂ (λ x t. x ∷ t) e q.whole,
      quoted q.inside refl q.is_inside q.reads,
    )

bare_name : (s name rest : List ℕ) → plain_at s ≡ Some (name, rest) → HasName s name rest
bare_name s name rest h =
    let run = front is_plain s in
    let i = if_false {A = NameRest} (length run == 0) (run, behind is_plain s) (name, rest) h in
    let same_name : run ≡ name = ap (λ (p : NameRest). p.0) i.1 in
    let same_rest : behind is_plain s ≡ rest = ap (λ (p : NameRest). p.1) i.1 in (
      run,
      run_split is_plain s ∙ ap (λ (t : List ℕ). run ++ t) same_rest,
      subst (IsName run) same_name (bare (run_begins is_plain s i.0) (run_all is_plain s)),
    )

pub name_found : (s name rest : List ℕ) → name_at s ≡ Some (name, rest) → HasName s name rest
name_found [] name rest h = absurd (none-some {A = NameRest} (name, rest) h)
name_found (b ∷ s) name rest h = go (b == 34) refl h
  where
    go : (c : Bool) → (b == 34) ≡ c
        → cond c (quoted_at (b ∷ s)) (plain_at (b ∷ s)) ≡ Some (name, rest)
        → HasName (b ∷ s) name rest
    go true e k = quoted_name b s name rest (eqb-true b 34 e) k
    go false e k = bare_name (b ∷ s) name rest k

abbrev HasAny : List ℕ → Option (List ℕ) → List ℕ → Type 0
HasAny s name rest = (n : List ℕ) × (s ≡ n ++ rest) × IsNameOrAny n name

any_found : (s : List ℕ) (name : Option (List ℕ)) (rest : List ℕ)
    → any_name s ≡ Some (name, rest) → HasAny s name rest
any_found [] name rest h = absurd (none-some {A = AnyRest} (name, rest) h)
any_found (b ∷ s) name rest h = go (b == 42) refl h
  where
    go : (c : Bool) → (b == 42) ≡ c
        → any_by s (name_at (b ∷ s)) c ≡ Some (name, rest)
        → HasAny (b ∷ s) name rest
    go true e k =
        let p = same_Some {A = AnyRest} (None, s) (name, rest) k in (
          42 ∷ [],
          ap₂ (λ x t. x ∷ t) (eqb-true b 42 e) (ap (λ (q : AnyRest). q.1) p),
          subst (IsNameOrAny (42 ∷ [])) (ap (λ (q : AnyRest). q.0) p) refl,
        )
    go false e k =
        let m = mapped this_name (name_at (b ∷ s)) (name, rest) k in
        let f = name_found (b ∷ s) m.0.0 m.0.1 m.1 in (
          f.0,
          f.1 ∙ ap (λ (q : AnyRest). f.0 ++ q.1) m.2,
          subst (IsNameOrAny f.0) (ap (λ (q : AnyRest). q.0) m.2) f.2,
        )

-- ---- places

abbrev HasSteps : List ℕ → List RuleStep → List ℕ → Type 0
HasSteps s steps rest = (w : List ℕ) × (s ≡ w ++ rest) × AreSteps w steps

-- a first step, before further steps
member_found : (s : List ℕ) (step : RuleStep) (next more rest : List ℕ) (steps : List RuleStep)
    → option_map member_step (name_at s) ≡ Some (step, next) → next ≡ more ++ rest
    → AreSteps more steps → HasSteps (46 ∷ s) (step ∷ steps) rest
member_found s step next more rest steps h is on =
    let m = mapped member_step (name_at s) (step, next) h in
    let f = name_found s m.0.0 m.0.1 m.1 in
    let same_step : named m.0.0 ≡ step = ap (λ (q : StepRest). q.0) m.2 in
    let same_next : m.0.1 ≡ next = ap (λ (q : StepRest). q.1) m.2 in
    let whole : s ≡ (f.0 ++ more) ++ rest =
    f.1 ∙ ap (λ (t : List ℕ). f.0 ++ t) (same_next ∙ is) ∙ sym (append_assoc f.0 more rest) in (
      46 ∷ (f.0 ++ more),
      ap (λ (t : List ℕ). 46 ∷ t) whole,
      subst (λ (p : RuleStep). AreSteps (46 ∷ (f.0 ++ more)) (p ∷ steps)) same_step
          (f.0, more, refl, f.2, on),
    )

abbrev all_step : List ℕ → Option StepRest
all_step s = Some (elements None, s)

each_found : (s : List ℕ) (b : ℕ) (step : RuleStep) (next more rest : List ℕ)
    (steps : List RuleStep) → b ≡ 93
    → all_step s ≡ Some (step, next) → next ≡ more ++ rest → AreSteps more steps
    → HasSteps (91 ∷ b ∷ s) (step ∷ steps) rest
each_found s b step next more rest steps e h is on =
    let p = same_Some {A = StepRest} (elements None, s) (step, next) h in
    let same_step : elements None ≡ step = ap (λ (q : StepRest). q.0) p in
    let same_next : s ≡ next = ap (λ (q : StepRest). q.1) p in (
      91 ∷ 93 ∷ more,
      ap₂ (λ x (t : List ℕ). 91 ∷ x ∷ t) e (same_next ∙ is),
      subst (λ (p : RuleStep). AreSteps (91 ∷ 93 ∷ more) (p ∷ steps)) same_step (more, refl, on),
    )

bracket_found : (n s : List ℕ) (step : RuleStep) (next : List ℕ)
    → bracket_behind n s ≡ Some (step, next) → (elements (Some n) ≡ step) × (s ≡ 93 ∷ next)
bracket_found n [] step next h = absurd (none-some {A = StepRest} (step, next) h)
bracket_found n (b ∷ s) step next h =
    let i = if_true {A = StepRest} (b == 93) (Some (elements (Some n), s)) (step, next) h in
    let p = same_Some {A = StepRest} (elements (Some n), s) (step, next) i.1 in (
      ap (λ (q : StepRest). q.0) p,
      ap₂ (λ x t. x ∷ t) (eqb-true b 93 i.0) (ap (λ (q : StepRest). q.1) p),
    )

called_found : (b : ℕ) (s : List ℕ) (step : RuleStep) (next more rest : List ℕ)
    (steps : List RuleStep) → b ≡ 34
    → option_and_then called_step (quoted_at (b ∷ s)) ≡ Some (step, next) → next ≡ more ++ rest
    → AreSteps more steps → HasSteps (91 ∷ b ∷ s) (step ∷ steps) rest
called_found b s step next more rest steps e h is on =
    let x = bound called_step (quoted_at (b ∷ s)) (step, next) h in
    let first : quoted_at (34 ∷ s) ≡ Some x.0 = ap (λ (c : ℕ). quoted_at (c ∷ s)) (sym e) ∙ x.1 in
    let q = quoted_found s x.0.0 x.0.1 first in
    let f = bracket_found x.0.0 x.0.1 step next x.2 in
    let text = q.inside ++ 34 ∷ [] in
    let whole : s ≡ (text ++ 93 ∷ more) ++ rest =
    q.whole ∙ ap (λ (t : List ℕ). text ++ t) (f.1 ∙ ap (λ (t : List ℕ). 93 ∷ t) is)
    ∙ sym (append_assoc text (93 ∷ more) rest) in (
      91 ∷ 34 ∷ (text ++ 93 ∷ more),
      ap₂ (λ c (t : List ℕ). 91 ∷ c ∷ t) e whole,
      subst (λ (p : RuleStep). AreSteps (91 ∷ 34 ∷ (text ++ 93 ∷ more)) (p ∷ steps)) f.0
          (34 ∷ text, more, refl, (q.inside, refl, q.is_inside, q.reads), on),
    )

elements_found : (s : List ℕ) (step : RuleStep) (next more rest : List ℕ) (steps : List RuleStep)
    → each_step s ≡ Some (step, next) → next ≡ more ++ rest → AreSteps more steps
    → HasSteps (91 ∷ s) (step ∷ steps) rest
elements_found [] step next more rest steps h is on =
    absurd (none-some {A = StepRest} (step, next) h)
elements_found (b ∷ s) step next more rest steps h is on = go (b == 93) (b == 34) refl refl h
  where
    go : (c d : Bool) → (b == 93) ≡ c → (b == 34) ≡ d
        → cond c (all_step s)
        (cond d (option_and_then called_step (quoted_at (b ∷ s))) None) ≡ Some (step, next)
        → HasSteps (91 ∷ b ∷ s) (step ∷ steps) rest
    go true d e f k = each_found s b step next more rest steps (eqb-true b 93 e) k is on
    go false true e f k = called_found b s step next more rest steps (eqb-true b 34 f) k is on
    go false false e f k = absurd (none-some {A = StepRest} (step, next) k)

at_byte : (b c : ℕ) (s : List ℕ) (steps : List RuleStep) (rest : List ℕ) → b ≡ c
    → HasSteps (c ∷ s) steps rest → HasSteps (b ∷ s) steps rest
at_byte b c s steps rest e f =
    (f.0, ap (λ (x : ℕ). x ∷ s) e ∙ f.1, f.2)

next_found : (s : List ℕ) (step : RuleStep) (next more rest : List ℕ) (steps : List RuleStep)
    → next_step s ≡ Some (step, next) → next ≡ more ++ rest → AreSteps more steps
    → HasSteps s (step ∷ steps) rest
next_found [] step next more rest steps h is on = absurd (none-some {A = StepRest} (step, next) h)
next_found (b ∷ s) step next more rest steps h is on = go (b == 46) (b == 91) refl refl h
  where
    go : (c d : Bool) → (b == 46) ≡ c → (b == 91) ≡ d
        → cond c (option_map member_step (name_at s)) (cond d (each_step s) None)
        ≡ Some (step, next)
        → HasSteps (b ∷ s) (step ∷ steps) rest
    go true d e f k = at_byte b 46 s (step ∷ steps) rest (eqb-true b 46 e)
        (member_found s step next more rest steps k is on)
    go false true e f k = at_byte b 91 s (step ∷ steps) rest (eqb-true b 91 f)
        (elements_found s step next more rest steps k is on)
    go false false e f k = absurd (none-some {A = StepRest} (step, next) k)

step_found : (n : ℕ) (s : List ℕ) (steps : List RuleStep) (rest : List ℕ)
    → ((t : List ℕ) (ps : List RuleStep) (r : List ℕ) → steps_from n t ≡ Some (ps, r)
    → HasSteps t ps r)
    → (o : Option StepRest) → next_step s ≡ o → step_then s (steps_from n) o ≡ Some (steps, rest)
    → HasSteps s steps rest
step_found n s steps rest more None e h =
    let p = same_Some {A = Steps} ([], s) (steps, rest) h in (
      [],
      ap (λ (q : Steps). q.1) p,
      subst (AreSteps []) (ap (λ (q : Steps). q.0) p) refl,
    )
step_found n s steps rest more (Some p) e h =
    let m = mapped (then_step p.0) (steps_from n p.1) (steps, rest) h in
    let others = more p.1 m.0.0 m.0.1 m.1 in
    let f = next_found s p.0 p.1 others.0 m.0.1 m.0.0 e others.1 others.2 in (
      f.0,
      f.1 ∙ ap (λ (q : Steps). f.0 ++ q.1) m.2,
      subst (AreSteps f.0) (ap (λ (q : Steps). q.0) m.2) f.2,
    )

steps_found : (n : ℕ) (s : List ℕ) (steps : List RuleStep) (rest : List ℕ)
    → steps_from n s ≡ Some (steps, rest) → HasSteps s steps rest
steps_found zero s steps rest h = absurd (none-some {A = Steps} (steps, rest) h)
steps_found (suc n) s steps rest h =
    step_found n s steps rest (λ t ps r k. steps_found n t ps r k) (next_step s) refl h

pub place_found : (s : List ℕ) (place : List RuleStep) (rest : List ℕ)
    → place_at s ≡ Some (place, rest) → (p : List ℕ) × (s ≡ p ++ rest) × IsPlace p place
place_found s place rest h =
    let x = bound (place_on (length s)) (name_at s) (place, rest) h in
    let m = mapped (then_step (named x.0.0)) (steps_from (length s) x.0.1) (place, rest) x.2 in
    let f = name_found s x.0.0 x.0.1 x.1 in
    let g = steps_found (length s) x.0.1 m.0.0 m.0.1 m.1 in
    let same_rest : m.0.1 ≡ rest = ap (λ (q : Steps). q.1) m.2 in (
      f.0 ++ g.0,
      f.1 ∙ ap (λ (t : List ℕ). f.0 ++ t) (g.1 ∙ ap (λ (t : List ℕ). g.0 ++ t) same_rest)
          ∙ sym (append_assoc f.0 g.0 rest),
      subst (IsPlace (f.0 ++ g.0)) (ap (λ (q : Steps). q.0) m.2) (f.0, g.0, refl, f.2, g.2),
    )

-- ---- heads

pub same_word : (w v : List ℕ) → bytes_eq w v ≡ true → w ≡ v
same_word w v h = (bytes_eq-Decides w v).0 h

abbrev kind_if : Bool → Bool → Bool → Option Kind
kind_if a b c = cond a (Some Request) (cond b (Some Response) (cond c (Some Event) None))

kind_is : (w : List ℕ) (k : Kind) (a b c : Bool) → bytes_eq w (codes "request") ≡ a
    → bytes_eq w (codes "response") ≡ b → bytes_eq w (codes "event") ≡ c
    → kind_if a b c ≡ Some k → w ≡ kind_word k
kind_is w k true b c e f g h =
    same_word w (codes "request") e ∙ ap kind_word (same_Some Request k h)
kind_is w k false true c e f g h =
    same_word w (codes "response") f ∙ ap kind_word (same_Some Response k h)
kind_is w k false false true e f g h =
    same_word w (codes "event") g ∙ ap kind_word (same_Some Event k h)
kind_is w k false false false e f g h = absurd (none-some k h)

kind_found : (w : List ℕ) (k : Kind) → kind_named w ≡ Some k → w ≡ kind_word k
kind_found w k h = kind_is w k (bytes_eq w (codes "request")) (bytes_eq w (codes "response"))
    (bytes_eq w (codes "event")) refl refl refl h

abbrev verb_if : Bool → Bool → Bool → Bool → Bool → Option Verb
verb_if a b c d e = cond a (Some Blank) (cond b (Some Digits) (cond c (Some Hex)
    (cond d (Some Long) (cond e (Some Uuid) None))))

pub record VerbTests (w : List ℕ) (a b c d e : Bool) : Type 0 where
  pub blank : bytes_eq w (codes "blank") ≡ a
  pub digits : bytes_eq w (codes "digits") ≡ b
  pub hex : bytes_eq w (codes "hex") ≡ c
  pub long : bytes_eq w (codes "long") ≡ d
  pub uuid : bytes_eq w (codes "uuid") ≡ e

verb_is : (w : List ℕ) (v : Verb) (a b c d e : Bool) → VerbTests w a b c d e
    → verb_if a b c d e ≡ Some v → w ≡ verb_word v
verb_is w v true b c d e t h =
    same_word w (codes "blank") t.blank ∙ ap verb_word (same_Some Blank v h)
verb_is w v false true c d e t h =
    same_word w (codes "digits") t.digits ∙ ap verb_word (same_Some Digits v h)
verb_is w v false false true d e t h =
    same_word w (codes "hex") t.hex ∙ ap verb_word (same_Some Hex v h)
verb_is w v false false false true e t h =
    same_word w (codes "long") t.long ∙ ap verb_word (same_Some Long v h)
verb_is w v false false false false true t h =
    same_word w (codes "uuid") t.uuid ∙ ap verb_word (same_Some Uuid v h)
verb_is w v false false false false false t h = absurd (none-some v h)

pub verb_found : (w : List ℕ) (v : Verb) → verb_named w ≡ Some v → w ≡ verb_word v
verb_found w v h = verb_is w v (bytes_eq w (codes "blank")) (bytes_eq w (codes "digits"))
    (bytes_eq w (codes "hex")) (bytes_eq w (codes "long")) (bytes_eq w (codes "uuid")) (record {
      blank = refl;
      digits = refl;
      hex = refl;
      long = refl;
      uuid = refl;
    }) h

-- the words of a head, with the gaps before them
abbrev pub HasHead : List ℕ → Head → Type 0
HasHead s u = (g : List ℕ) × (h : List ℕ) × (n : List ℕ)
    × (s ≡ g ++ (kind_word u.0 ++ (h ++ (n ++ u.2)))) × IsGap g × IsGap h × IsNameOrAny n u.1

pub head_found : (s : List ℕ) (u : Head) → head_at s ≡ Some u → HasHead s u
head_found s u e =
    let x = bound kind_then (gap s) u e in
    let g = gap_found s x.0 x.1 in
    let word = front is_plain x.0 in
    let text = behind is_plain x.0 in
    let k = bound (kind_on text) (kind_named word) u x.2 in
    let y = bound (name_behind k.0) (gap text) u k.2 in
    let h = gap_found text y.0 y.1 in
    let m = mapped (with_kind k.0) (any_name y.0) u y.2 in
    let n = any_found y.0 m.0.0 m.0.1 m.1 in
    let next : text ≡ h.blanks ++ (n.0 ++ m.0.1) =
    h.whole ∙ ap (λ (t : List ℕ). h.blanks ++ t) n.1 in
    let words : x.0 ≡ kind_word k.0 ++ (h.blanks ++ (n.0 ++ m.0.1)) =
    run_split is_plain x.0
    ∙ ap₂ (λ v t. v ++ t) (kind_found word k.0 k.1) next in
    let found : HasHead s (with_kind k.0 m.0) = (
      g.blanks,
      h.blanks,
      n.0,
      g.whole ∙ ap (λ (t : List ℕ). g.blanks ++ t) words,
      g.is_gap,
      h.is_gap,
      n.2,
    ) in
    subst (HasHead s) m.2 found

-- the words of a head, before other words
pub head_goes : (s : List ℕ) (u : Head) (ws : List (List ℕ)) (f : HasHead s u) → GoesOn ws u.2
    → GoesOn (kind_word u.0 ∷ f.2 ∷ ws) s
head_goes s u ws f on =
    (f.0, f.1 ++ (f.2 ++ u.2), f.3, f.4, (f.1, u.2, refl, f.5, on))
