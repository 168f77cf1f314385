-- `host::birdovesta_check_word` meets its contract.
use Rattle.rules.specs.Judgements.{judgement}
use Rattle.host.proofs.Fits.{word_fits}
use Rattle.host.proofs.birdovesta_check_word.Goals as goal

pub judgement_number-requires : goal.judgement_number-requires
judgement_number-requires c =
    let a = c.args in
    word_fits a.first.now a.second.now a.bits a.word.now (judgement c.check.result) c.check.ensures
