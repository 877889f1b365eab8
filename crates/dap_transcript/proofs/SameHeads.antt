-- The side, the kind and the name of a message are determined by its head.
use Rattle.std.proofs.Common.{◌≡◌, ℕ, List, ◌++◌, true, refl, sym, ap, ◌∙◌, codes, IsUtf8}
use Rattle.std.proofs.Common.{append_assoc, get_or, ◌==◌, eq-eqb, true≢false, false}
use Rattle.std.proofs.lemmas.List.{append_cancel_left}
use Rattle.std.specs.List.{list_all}
use Rattle.dap_tree.specs.{Side.side_text, declared.side.Side.Side}
use Rattle.dap_tree.specs.declared.side.Side.TheVariants.{Client, Adapter}
use Rattle.dap_profile.specs.{Profile.kind_name, declared.profile.Kind.Kind}
use Rattle.dap_profile.specs.declared.profile.Kind.TheVariants.{Request, Response, Event}
use Rattle.dap_transcript.specs.Transcript.{title}
use Rattle.dap_transcript.proofs.SameTokens.{is_bare_byte, same_title}

-- ---- the kind and the name

-- The kind and the name, with a blank between them.
abbrev pub words : Kind → List ℕ → List ℕ
words k name = kind_name k ++ codes " " ++ name

record SameWords (j k : Kind) (n m : List ℕ) : Type 0 where
  kind : j ≡ k
  name : n ≡ m

-- The texts differ at this place.
differ_at : {P : Type 0} (i : ℕ) (x y : List ℕ) → x ≡ y
    → (get_or x i 0 == get_or y i 0) ≡ false → P
differ_at i x y h apart =
    let same : (get_or x i 0 == get_or y i 0) ≡ true =
    eq-eqb _ _ (ap (λ l. get_or l i 0) h) in absurd (true≢false (sym same ∙ apart))

same_words : (j k : Kind) (n m : List ℕ) → words j n ≡ words k m → SameWords j k n m
same_words Request Request n m h =
    record { kind = refl; name = append_cancel_left (codes "request ") n m h }
same_words Request Response n m h = differ_at 2 _ _ h refl
same_words Request Event n m h = differ_at 0 _ _ h refl
same_words Response Request n m h = differ_at 2 _ _ h refl
same_words Response Response n m h =
    record { kind = refl; name = append_cancel_left (codes "response ") n m h }
same_words Response Event n m h = differ_at 0 _ _ h refl
same_words Event Request n m h = differ_at 0 _ _ h refl
same_words Event Response n m h = differ_at 0 _ _ h refl
same_words Event Event n m h =
    record { kind = refl; name = append_cancel_left (codes "event ") n m h }

bare_kind : (k : Kind) → list_all is_bare_byte (kind_name k) ≡ true
bare_kind Request = refl
bare_kind Response = refl
bare_kind Event = refl

-- ---- the side

-- The start of a head, up to the kind.
abbrev start : Side → List ℕ
start s = codes "- " ++ side_text s ++ codes ": "

-- The first line of a record.
abbrev pub head_of : Side → Kind → List ℕ → List ℕ
head_of s k name = start s ++ title (kind_name k) name ++ codes "\n"

-- The two sides are equal, and what follows them.
record SameSides (s t : Side) (x y : List ℕ) : Type 0 where
  side : s ≡ t
  rest : x ≡ y

same_sides : (s t : Side) (x y : List ℕ) → start s ++ x ≡ start t ++ y → SameSides s t x y
same_sides Client Client x y h =
    record { side = refl; rest = append_cancel_left (codes "- client: ") x y h }
same_sides Client Adapter x y h = differ_at 2 _ _ h refl
same_sides Adapter Client x y h = differ_at 2 _ _ h refl
same_sides Adapter Adapter x y h =
    record { side = refl; rest = append_cancel_left (codes "- adapter: ") x y h }

-- The bytes after the side.
after_side : (s : Side) (k : Kind) (n x : List ℕ)
    → head_of s k n ++ x ≡ start s ++ (title (kind_name k) n ++ (codes "\n" ++ x))
after_side s k n x =
    append_assoc (start s ++ title (kind_name k) n) (codes "\n") x
    ∙ append_assoc (start s) (title (kind_name k) n) (codes "\n" ++ x)

pub record SameHeads (s t : Side) (j k : Kind) (n m x y : List ℕ) : Type 0 where
  pub side : s ≡ t
  pub kind : j ≡ k
  pub name : n ≡ m
  pub rest : x ≡ y

-- Equal heads have the same side, kind and name, and the same bytes follow them.
pub same_heads : (s t : Side) (j k : Kind) (n m x y : List ℕ) → IsUtf8 (words j n)
    → IsUtf8 (words k m) → head_of s j n ++ x ≡ head_of t k m ++ y → SameHeads s t j k n m x y
same_heads s t j k n m x y p q h =
    let sides = same_sides s t (title (kind_name j) n ++ (codes "\n" ++ x))
    (title (kind_name k) m ++ (codes "\n" ++ y))
    (sym (after_side s j n x) ∙ h ∙ after_side t k m y) in
    let titles = same_title (kind_name j) (kind_name k) n m x y (bare_kind j) (bare_kind k) p q
    sides.rest in
    let same = same_words j k n m titles.0 in
    record { side = sides.side; kind = same.kind; name = same.name; rest = titles.1 }
