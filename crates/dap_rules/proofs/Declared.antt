-- Whether rules declare ids.
use Rattle.std.proofs.Common.{◌≡◌, List, [], ◌∷◌, length, nat_eq, false, true, arith, sym, ◌∙◌}
use Rattle.std.proofs.lemmas.Bool.{true≢false}
use Rattle.dap_mask.specs.Declarations.{Declaration, declarations_of}
use Rattle.dap_mask.specs.declared.declarations.Declaration.{Declaration as ReadDeclaration}

pub none_are : (ds : List ReadDeclaration) (declared : List Declaration)
    → declarations_of ds ≡ declared → nat_eq (length ds) 0 ≡ true → declared ≡ []
none_are [] declared same none = sym same
none_are (d ∷ ds) declared same none = absurd (grind (arith, none))

pub some_are : (ds : List ReadDeclaration) (declared : List Declaration)
    → declarations_of ds ≡ declared → nat_eq (length ds) 0 ≡ false → declared ≡ [] → ⊥
some_are [] declared same some none = true≢false some
some_are (d ∷ ds) declared same some none = absurd (let e = same ∙ none in cc)
