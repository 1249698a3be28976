use Rattle.std.proofs.Common.{flat_map}
use Rattle.tocmark_spelling.specs.Opening.{info_byte}
use Rattle.tocmark_write_renderer.specs.WriterOf.{levels_of, page_of}
use Rattle.tocmark_write_renderer.proofs.Laid.{part-written}
use Rattle.tocmark_write_blocks.proofs.code.write_fence.Goals as goal

pub returns-clause-stands : goal.returns-clause-stands
returns-clause-stands c =
    let here = c.args.renderer.now in
    part-written c.write_info.result c.write.new.self c.write_info.new.renderer (levels_of here) (page_of here)
    c.args.fence.now (flat_map info_byte c.args.info.now) c.in_ok-write.ensures.written c.write_info.ensures.stands
