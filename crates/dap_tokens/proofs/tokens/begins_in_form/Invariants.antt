use Rattle.std.proofs.Common.{◌≡◌, ◌≤◌, drop, length}
use Rattle.dap_words.specs.Uuids.{nil_uuid, begins_in_form}
use Rattle.dap_tokens.proofs.tokens.begins_in_form.Given as goal

-- the whole text starts in the form if the remaining text starts in the rest of the form
abbrev pub invariant-loop-i : goal.invariant-loop-i
invariant-loop-i l = record {
  within : l.i ≤ length l.bytes;
  rest : begins_in_form (drop l.i nil_uuid) (drop l.i l.bytes) ≡ begins_in_form nil_uuid l.bytes;
}
