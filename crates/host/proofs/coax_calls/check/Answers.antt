-- `host::coax_calls::check` meets its contract.
use Rattle.rules.specs.Judgements.{judgement}
use Rattle.host.proofs.Fits.{coax_check_fits}
use Rattle.host.proofs.coax_calls.check.Goals as goal

pub judgement_number-requires : goal.judgement_number-requires
judgement_number-requires c =
    let a = c.args in
    coax_check_fits a.code a.bits a.word.now (judgement c.check.result) c.check.ensures
