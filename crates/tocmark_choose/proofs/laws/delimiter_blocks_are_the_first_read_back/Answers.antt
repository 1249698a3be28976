use Rattle.tocmark_choose.proofs.FirstReadBack.{at-most-all, checked-chosen, delimiters-checked}
use Rattle.tocmark_choose.proofs.laws.delimiter_blocks_are_the_first_read_back.Goals as goal

pub returns-clause-chosen : goal.returns-clause-chosen
returns-clause-chosen c s d f next standard accepts delimiters placed =
    checked-chosen s d f next standard accepts (delimiters-checked s d f next delimiters) placed

pub returns-clause-few : goal.returns-clause-few
returns-clause-few c = at-most-all
