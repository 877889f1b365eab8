-- The length that the lines of a header part state, after one more line.
use Rattle.std.proofs.Common.{◌≡◌, ℕ, Bool, true, false, ◌&&◌, cond, List, [], ◌∷◌, ◌++◌, Result}
use Rattle.std.proofs.Common.{Err, refl, sym, ap, ◌∙◌, inl, inr}
use Rattle.std.proofs.lemmas.Bool.{cases_Bool, and_right, false≢true}
use Rattle.std.specs.List.{list_all}
use Rattle.dap_frame.specs.declared.limits.FrameLimits.{FrameLimits}
use Rattle.dap_frame.specs.declared.fault.FrameFault.{FrameFault}
use Rattle.dap_frame.specs.declared.fault.FrameFault.TheVariants.{TwoLengths}
use Rattle.dap_frame.specs.declared.line_scan.LineScan.{LineScan}
use Rattle.dap_frame.specs.declared.line_scan.LineScan.TheVariants.{Name, OtherName, Length}
use Rattle.dap_frame.specs.declared.line_scan.LineScan.TheVariants.{OtherValue, NoField}
use Rattle.dap_frame.specs.declared.header_scan.Findings.{Findings}
use Rattle.dap_frame.specs.Lines.{is_field_line, is_length_line, value_of, trimmed}
use Rattle.dap_frame.specs.Frame.{lengths_in, the_length, length_from}
use Rattle.dap_frame.specs.LineScan.{LineSays}
use Rattle.dap_frame.specs.Findings.{AreFindings, is_some_line, with_line}
use Rattle.dap_frame.proofs.ByteEnds.{and_true, and_assoc}

all_push : (p : List ℕ → Bool) (xs : List (List ℕ)) (x : List ℕ)
    → list_all p (xs ++ x ∷ []) ≡ (list_all p xs && p x)
all_push p [] x = and_true (p x)
all_push p (y ∷ ys) x = ap (λ t. p y && t) (all_push p ys x) ∙ and_assoc (p y) (list_all p ys) (p x)

lengths_yes : (lines : List (List ℕ)) (line : List ℕ) → is_length_line line ≡ true
    → lengths_in (lines ++ line ∷ []) ≡ lengths_in lines ++ value_of line ∷ []
lengths_yes [] line h = rw h refl
lengths_yes (l ∷ ls) line h =
    elim (cases_Bool (is_length_line l)) [
      | inl e ↦ rw e (ap (λ vs. value_of l ∷ vs) (lengths_yes ls line h))
      | inr e ↦ rw e (lengths_yes ls line h)
    ]

lengths_no : (lines : List (List ℕ)) (line : List ℕ) → is_length_line line ≡ false
    → lengths_in (lines ++ line ∷ []) ≡ lengths_in lines
lengths_no [] line h = rw h refl
lengths_no (l ∷ ls) line h =
    elim (cases_Bool (is_length_line l)) [
      | inl e ↦ rw e (ap (λ vs. value_of l ∷ vs) (lengths_no ls line h))
      | inr e ↦ rw e (lengths_no ls line h)
    ]

length_push : (limits : FrameLimits) (vs : List (List ℕ)) (v : List ℕ) (has : Bool)
    (said : Result ℕ FrameFault)
    → has ≡ is_some_line vs → length_from limits (trimmed v) ≡ said
    → cond has (Err TwoLengths) said ≡ the_length limits (vs ++ v ∷ [])
length_push limits [] v has said h e = rw h (sym e)
length_push limits (w ∷ []) v has said h e = rw h refl
length_push limits (w ∷ u ∷ ws) v has said h e = rw h refl

some_push : (vs : List (List ℕ)) (v : List ℕ) → true ≡ is_some_line (vs ++ v ∷ [])
some_push [] v = refl
some_push (w ∷ ws) v = refl

no_field : (limits : FrameLimits) (lines : List (List ℕ)) (line : List ℕ) (findings : Findings)
    → is_field_line line ≡ false
    → AreFindings limits (lines ++ line ∷ [])
    (record { are_fields = false; has_length = findings.has_length; length = findings.length })
no_field limits lines line findings wrong = record {
  are_fields =
      sym (all_push is_field_line lines line ∙ and_right (list_all is_field_line lines) _ wrong);
  lengths = λ e. absurd (false≢true e);
}

pub found_more : (limits : FrameLimits) (lines : List (List ℕ)) (line : List ℕ)
    (findings : Findings) (s : LineScan)
    → LineSays limits line s → AreFindings limits lines findings
    → AreFindings limits (lines ++ line ∷ []) (with_line limits findings s)
found_more limits lines line findings (Name n) says found = no_field limits lines line findings says
found_more limits lines line findings OtherName says found =
    no_field limits lines line findings says
found_more limits lines line findings NoField says found = no_field limits lines line findings says
found_more limits lines line findings (Length d) says found = record {
  are_fields =
      found.are_fields
      ∙ sym (all_push is_field_line lines line ∙ ap (λ t. list_all is_field_line lines && t) says.0
      ∙ and_true (list_all is_field_line lines));
  lengths = λ e. let t = found.lengths e in record {
    length = length_push limits (lengths_in lines) (value_of line) findings.has_length _
        t.has_length says.2 ∙ ap (the_length limits) (sym (lengths_yes lines line says.1));
    has_length =
        some_push (lengths_in lines) (value_of line)
        ∙ ap is_some_line (sym (lengths_yes lines line says.1));
  };
}
found_more limits lines line findings OtherValue says found = record {
  are_fields =
      found.are_fields
      ∙ sym (all_push is_field_line lines line ∙ ap (λ t. list_all is_field_line lines && t) says.0
      ∙ and_true (list_all is_field_line lines));
  lengths = λ e. let t = found.lengths e in record {
    length = t.length ∙ ap (the_length limits) (sym (lengths_no lines line says.1));
    has_length = t.has_length ∙ ap is_some_line (sym (lengths_no lines line says.1));
  };
}
