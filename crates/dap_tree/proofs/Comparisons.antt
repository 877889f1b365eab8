-- The ordering that a test of a comparison implies.
use Rattle.std.proofs.Common.{◌≡◌, true, Ordering, Less, Equal, Greater, refl}
use Rattle.std.specs.Ordering.{is_lt}

pub less : (o : Ordering) → is_lt o ≡ true → o ≡ Less
less Less h = refl
less Equal h = cc
less Greater h = cc
