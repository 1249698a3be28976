use Rattle.std.proofs.Common.{◌≡◌, refl, sym, ◌∙◌, ap, slice_get, length}
use Rattle.std.proofs.lemmas.Option.{slice_get_read}
use Rattle.tocmark_links.proofs.changed.edit_of.Goals as goal

pub returns : goal.returns
returns c =
    let number = c.args.change.now.0 in
    let seen = c.in-Some.ensures.lookup in (
      c.in-Some.link.now,
      sym (ap (λ links. slice_get links number) c.deref.ensures.value)
          ∙ slice_get_read c.deref.result.now (length c.deref.result.now) number c.in-Some.link.now refl seen.3.0 seen.1,
      c.in-Some-place.is,
    )
