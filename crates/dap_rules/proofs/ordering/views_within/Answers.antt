use Rattle.std.proofs.Common.{◌∙◌, Err, ap, map, subst}
use Rattle.std.proofs.lemmas.Result.{err_from_is_err_and}
use Rattle.dap_stored.specs.Sessions.{stored_sent}
use Rattle.dap_normalise.specs.Accepting.{Fits}
use Rattle.dap_rules.specs.OrderingSteps.{Measures}
use Rattle.dap_rules.proofs.ordering.views_within.Goals as goal

pub returns-in_err-length_of_text-clause-err : goal.returns-in_err-length_of_text-clause-err
returns-in_err-length_of_text-clause-err c =
    let because = err_from_is_err_and c.from_residual.result c.from_residual.ensures.1 in
    rw (because.1, because.2)
    (subst (λ all. Measures c.args.limits all (Err c.in_err-length_of_text.field-0.0))
    (ap (map stored_sent) c.as_slice.ensures.value ∙ c.in-Ok.ensures.ok)
    c.in_err-length_of_text.ensures)

pub returns-clause-ok : goal.returns-clause-ok
returns-clause-ok c = record {
  same = c.in-Ok.ensures.ok;
  fits = subst (Fits c.args.limits)
      (ap (map stored_sent) c.as_slice.ensures.value ∙ c.in-Ok.ensures.ok)
      c.in_ok-length_of_text.ensures.fits;
}
