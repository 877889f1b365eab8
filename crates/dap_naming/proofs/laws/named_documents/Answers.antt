use Rattle.dap_tokens.proofs.NamedStrings.{names_are_read, named_twice}
use Rattle.dap_tokens.proofs.EqualStrings.{equal_named}
use Rattle.dap_naming.proofs.NamedDocuments.{names_of_doc_are_read, named_doc_twice}
use Rattle.dap_naming.proofs.EqualDocuments.{equal_named_docs}
use Rattle.dap_naming.proofs.laws.named_documents.Goals as goal

pub returns : goal.returns
returns c = record {
  read = names_of_doc_are_read names_are_read named_twice equal_named;
  twice = named_doc_twice names_are_read named_twice equal_named;
  equal = equal_named_docs names_are_read named_twice equal_named;
}
