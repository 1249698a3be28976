use Rattle.std.proofs.Common.{◌≡◌, ◌∙◌, ◌++◌, ◌∷◌, [], ap, sym, arith, None, length, string_bytes}
use Rattle.tocmark_write_containers.proofs.Notes.{refit, stayed-more}
use Rattle.tocmark_write_containers.proofs.Says.{outside-step}
use Rattle.tocmark_write_containers.proofs.Seen.{joined-last, seen-length, told-more}
use Rattle.tocmark_write_containers.specs.FrameOf.{content_view}
use Rattle.tocmark_write_containers.specs.KeptOf.{present, seen}
use Rattle.tocmark_write_containers.specs.Nesting.{Nesting}
use Rattle.tocmark_write_containers.specs.Outside.{outside_of, within}
use Rattle.tocmark_write_containers.specs.PrefixOf.{prefix_bytes}
use Rattle.tocmark_event.specs.View.{tag_view}
use Rattle.tocmark_write_containers.specs.declared.kept.Kept.{Kept}
use Rattle.tocmark_write_containers.proofs.containers.Containers.push.Goals as goal

pub invariant_of-self-2 : goal.invariant_of-self-2
invariant_of-self-2 c =
    let k : Kept = record { frame = record { tag = c.args.tag; prefix = c.args.prefix; start = c.args.start; outside = c.within-outside.result; content = c.args.content }; before = None } in
    let items : c.put.new.frames.items ≡ c.self.inside.frames.items ++ k ∷ [] = c.put.ensures.items ∙ ap (λ l. l ++ k ∷ []) c.in_ok-reserve.ensures.items in
    let path = seen present c.self.inside.frames.items in
    let t = tag_view string_bytes c.args.tag.now in
    let depth : c.len.result ≡ length path = omega (arith, c.len.ensures, seen-length present c.self.inside.frames.items) in
    let says =
    c.within-outside.ensures
    ∙ ap (λ n. within t c.args.start (content_view c.args.content) n c.outside.result) depth
    ∙ ap (within t c.args.start (content_view c.args.content) (length path)) (c.outside.ensures ∙ ap (λ (r : Nesting). outside_of r.path) (sym c.self.view_is))
    ∙ sym (outside-step (present k) path) in
    record {
      prefix_is = c.in_ok-add.ensures.bytes ∙ ap (λ l. l ++ prefix_bytes c.args.prefix) c.self.invariant.prefix_is ∙ sym (joined-last c.put.new.frames.items c.self.inside.frames.items k items);
      told = told-more present c.put.new.frames.items c.self.inside.frames.items k items says c.self.invariant.told;
      fits = refit c.self.inside c.put.new.frames c.add.new.text c.self.inside.kept (λ n less. stayed-more c.put.new.frames.items c.self.inside.frames.items k n items less) (omega (arith, c.put.ensures.capacity, c.in_ok-reserve.ensures.capacity)) (c.in_ok-add.ensures.capacity) c.self.invariant.fits;
    }
