use Rattle.dap_message.proofs.Contents.{document_again, content_again, own_again}
use Rattle.dap_message.proofs.Contents.{document_renumbered, content_renumbered}
use Rattle.dap_message.proofs.MarkedPlaces.{small_ids}
use Rattle.dap_message.proofs.laws.typed_again.Goals as goal
use Rattle.dap_tree.specs.Ids.{ids}

pub returns-clause-renumbered : goal.returns-clause-renumbered
returns-clause-renumbered c = document_renumbered

pub returns-clause-renumbered_content : goal.returns-clause-renumbered_content
returns-clause-renumbered_content c = content_renumbered

pub returns-clause-small : goal.returns-clause-small
returns-clause-small c = λ n h. small_ids (ids n) h

pub returns-clause-document : goal.returns-clause-document
returns-clause-document c = document_again

pub returns-clause-content : goal.returns-clause-content
returns-clause-content c = content_again

pub returns-clause-own_numbers : goal.returns-clause-own_numbers
returns-clause-own_numbers c = own_again
