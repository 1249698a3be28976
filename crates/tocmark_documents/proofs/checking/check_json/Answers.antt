use Rattle.tocmark_documents.proofs.checking.check_json.Goals as goal

pub returns-clause-again : goal.returns-clause-again
returns-clause-again c =
    let list = c.in_ok-list.ensures.list in
    record { value = list.value; is_read = list.is_read; is_again = c.in_ok-written_again.ensures list.value list.is_list }
