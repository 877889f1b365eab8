-- Lemmas about options.
use Rattle.std.proofs.Common.{◌≡◌, Bool, true, false, cond, Option, Some, None, option_map}
use Rattle.std.proofs.Common.{option_and_then, refl}
use Rattle.std.proofs.lemmas.Option.{none-some, same_Some}

pub mapped : {A B : Type 0} → (f : A → B) (o : Option A) (y : B) → option_map f o ≡ Some y
    → (x : A) × (o ≡ Some x) × (f x ≡ y)
mapped f None y h = absurd (none-some y h)
mapped f (Some x) y h = (x, refl, same_Some (f x) y h)

pub bound : {A B : Type 0} → (f : A → Option B) (o : Option A) (y : B)
    → option_and_then f o ≡ Some y → (x : A) × (o ≡ Some x) × (f x ≡ Some y)
bound f None y h = absurd (none-some y h)
bound f (Some x) y h = (x, refl, h)

pub if_true : {A : Type 0} → (b : Bool) (o : Option A) (y : A) → cond b o None ≡ Some y
    → (b ≡ true) × (o ≡ Some y)
if_true true o y h = (refl, h)
if_true false o y h = absurd (none-some y h)

pub if_false : {A : Type 0} → (b : Bool) (x y : A) → cond b None (Some x) ≡ Some y
    → (b ≡ false) × (x ≡ y)
if_false true x y h = absurd (none-some y h)
if_false false x y h = (refl, same_Some x y h)

pub then_then : {A B C : Type 0} → (f : B → Option C) (g : A → Option B) (o : Option A)
    → option_and_then (λ x. option_and_then f (g x)) o ≡ option_and_then f (option_and_then g o)
then_then f g None = refl
then_then f g (Some x) = refl
