use Rattle.dap_join.proofs.EqualJoined.{alike_from_texts, texts_from_alike}
use Rattle.dap_join.proofs.laws.equal_joined.Goals as goal

pub returns : goal.returns
returns c = λ limits sound joining bytes written numbers other_bytes other others one two. (
  alike_from_texts limits sound joining bytes written numbers other_bytes other others one two,
  texts_from_alike limits sound joining bytes written numbers other_bytes other others one two,
)
