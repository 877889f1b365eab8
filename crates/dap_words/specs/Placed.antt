-- For private clauses: the place of the first byte of a text in a UUID.
use Rattle.std.specs.Prelude.{ℕ, ◌==◌, Bool, cond, ◌&&◌, List}
use Rattle.dap_words.specs.Uuids.{begins_uuid}

-- The place is 36 outside a UUID.
abbrev pub place_at : ℕ → Bool → List ℕ → ℕ
place_at place after_digit s = cond ((place == 36) && begins_uuid after_digit s) 0 place
