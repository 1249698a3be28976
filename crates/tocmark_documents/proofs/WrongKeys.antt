-- The key that a fault of options names.
use Rattle.std.proofs.Common.{◌≡◌, ◌∙◌, List, Some, ap, option_and_then, sym, ℕ}
use Rattle.serde_json.specs.Data.{Data, Members}
use Rattle.serde_json.specs.Find.{as_object}
use Rattle.tocmark_documents.specs.Options.{IsOptionFault, NamesKey, first_wrong}
use Rattle.tocmark_documents.specs.declared.fault.OptionFault.{OptionFault}
use Rattle.tocmark_documents.specs.declared.fault.OptionFault.TheVariants as fault

-- a fault that names the first wrong key of an object
pub names_first : (value : Data) (ms : Members) (key : List ℕ) (f : OptionFault) → as_object value ≡ Some ms → first_wrong ms ≡ Some key → NamesKey key f → IsOptionFault value f
names_first value ms key fault.NotAnObject is wrong h = absurd h
names_first value ms key (fault.Wanted k wanted) is wrong h =
    ap (option_and_then first_wrong) is ∙ wrong ∙ ap (λ (x : List ℕ). Some x) (sym h)
