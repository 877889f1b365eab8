-- The part of a CR LF CR LF at the end of the bytes, after one more byte.
use Rattle.std.proofs.Common.{◌≡◌, ℕ, true, false, List, [], ◌∷◌, ◌++◌, refl, ◌∙◌, nat_eq}
use Rattle.std.proofs.lemmas.Bool.{and_right}
use Rattle.dap_frame.specs.declared.header_scan.EndMark.{EndMark}
use Rattle.dap_frame.specs.declared.header_scan.EndMark.TheVariants.{Nothing, Cr, CrLf, CrLfCr}
use Rattle.dap_frame.specs.HeaderScan.{pending, at_cr, ends, IsMark, is_cr, is_crlf, is_crlfcr}
use Rattle.dap_frame.proofs.ByteEnds.{and_true, ends_more, ends_nil}

abbrev pub lf_mark : EndMark → EndMark
lf_mark Nothing = Nothing
lf_mark Cr = CrLf
lf_mark CrLf = Nothing
lf_mark CrLfCr = CrLf

lf_two : (mark : EndMark) → is_cr mark ≡ is_crlf (lf_mark mark)
lf_two Nothing = refl
lf_two Cr = refl
lf_two CrLf = refl
lf_two CrLfCr = refl

lf_others : (mark : EndMark) → (false ≡ is_cr (lf_mark mark)) × (false ≡ is_crlfcr (lf_mark mark))
lf_others Nothing = (refl, refl)
lf_others Cr = (refl, refl)
lf_others CrLf = (refl, refl)
lf_others CrLfCr = (refl, refl)

pub cr_all : (mark : EndMark)
    → (true ≡ is_cr (at_cr mark)) × (false ≡ is_crlf (at_cr mark))
    × (is_crlf mark ≡ is_crlfcr (at_cr mark)) × (pending (at_cr mark) ≡ 13 ∷ [])
cr_all Nothing = (refl, refl, refl, refl)
cr_all Cr = (refl, refl, refl, refl)
cr_all CrLf = (refl, refl, refl, refl)
cr_all CrLfCr = (refl, refl, refl, refl)

pub mark_lf : (bytes : List ℕ) (mark : EndMark) → IsMark bytes mark
    → IsMark (bytes ++ 10 ∷ []) (lf_mark mark)
mark_lf bytes mark h = record {
  one = ends_more [] bytes 13 10 ∙ and_right (ends [] bytes) _ refl ∙ (lf_others mark).0;
  two = ends_more (13 ∷ []) bytes 10 10 ∙ and_true (ends (13 ∷ []) bytes) ∙ h.one ∙ lf_two mark;
  three = ends_more (13 ∷ 10 ∷ []) bytes 13 10 ∙ and_right (ends (13 ∷ 10 ∷ []) bytes) _ refl
      ∙ (lf_others mark).1;
}

pub mark_cr : (bytes : List ℕ) (mark : EndMark) → IsMark bytes mark
    → IsMark (bytes ++ 13 ∷ []) (at_cr mark)
mark_cr bytes mark h = record {
  one = ends_more [] bytes 13 13 ∙ and_true (ends [] bytes) ∙ ends_nil bytes ∙ (cr_all mark).0;
  two = ends_more (13 ∷ []) bytes 10 13 ∙ and_right (ends (13 ∷ []) bytes) _ refl ∙ (cr_all mark).1;
  three = ends_more (13 ∷ 10 ∷ []) bytes 13 13 ∙ and_true (ends (13 ∷ 10 ∷ []) bytes) ∙ h.two
      ∙ (cr_all mark).2;
}

pub mark_other : (bytes : List ℕ) (b : ℕ) → nat_eq 13 b ≡ false → nat_eq 10 b ≡ false
    → IsMark (bytes ++ b ∷ []) Nothing
mark_other bytes b no_cr no_lf = record {
  one = ends_more [] bytes 13 b ∙ and_right (ends [] bytes) _ no_cr;
  two = ends_more (13 ∷ []) bytes 10 b ∙ and_right (ends (13 ∷ []) bytes) _ no_lf;
  three = ends_more (13 ∷ 10 ∷ []) bytes 13 b ∙ and_right (ends (13 ∷ 10 ∷ []) bytes) _ no_cr;
}
