use Rattle.dap_message.proofs.LaterRows.{fits_first, marked_in_two, document_later, content_later}
use Rattle.dap_message.proofs.laws.typed_by_later_rows.Goals as goal

pub returns-clause-fits : goal.returns-clause-fits
returns-clause-fits c = fits_first

pub returns-clause-marked : goal.returns-clause-marked
returns-clause-marked c = marked_in_two

pub returns-clause-document : goal.returns-clause-document
returns-clause-document c = document_later

pub returns-clause-content : goal.returns-clause-content
returns-clause-content c = content_later
