-- Whether lines are filled.
use Rattle.std.specs.Prelude.{Bool, true, false}
use Rattle.tocmark_print.specs.declared.style.Wrap.{Wrap}
use Rattle.tocmark_print.specs.declared.style.Wrap.TheVariants.{Keep, No, Sentence, At}

-- lines break elsewhere than in the source
abbrev pub fills : Wrap → Bool
fills Keep = false
fills No = true
fills Sentence = true
fills (At n) = true
