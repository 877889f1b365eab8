use Rattle.std.proofs.Common.{◌≡◌, ◌≤◌, ◌++◌, take, drop, length}
use Rattle.dap_words.specs.Uuids.{nil_uuid, uuid_from, uuid}
use Rattle.dap_words.proofs.uuids.clear_uuids.Given as goal

-- the bytes so far, and the result for the remaining bytes, are the result for the whole text
abbrev pub invariant-loop-i : goal.invariant-loop-i
invariant-loop-i l = record {
  same : length l.bytes ≡ length l.initial.bytes;
  within : l.place ≤ 36;
  whole : take l.i l.bytes ++ uuid_from (drop l.i l.bytes) (drop l.place nil_uuid) l.after_digit
      ≡ uuid l.initial.bytes;
}
