use Rattle.tocmark_links.proofs.changed.with_destinations.Goals as goal

pub returns-clause-leads : goal.returns-clause-leads
returns-clause-leads c = record {
  led =
      rw (c.deref-5.ensures.value, c.deref-6.ensures.value, c.in_ok-old.ensures, c.deref-4.ensures.value) at (c.in_ok-lead_to.ensures c.if-not-branch.false);
  lead =
      rw (c.deref-7.ensures.value, c.deref-8.ensures.value, c.in_ok-wanted.ensures, c.deref-2.ensures.value, c.as_str-3.ensures.value) at (c.in_ok-lead_to-2.ensures c.if-not-branch-2.false);
}

pub returns-clause-bytes : goal.returns-clause-bytes
returns-clause-bytes c = record {
  edits = c.in_ok-edits.edits.items;
  are_all = c.in_ok-edits.ensures.count;
  are_asked = c.in_ok-edits.ensures.asked;
  are_apart = rw (c.in-Some.is, c.deref.ensures.value) at c.in_ok-new.ensures.apart;
  is_spliced = rw (c.in-Some.is, c.deref.ensures.value) at c.in_ok-new.ensures.bytes;
}
