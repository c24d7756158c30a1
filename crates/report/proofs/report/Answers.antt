-- What is put on an output at the buffer's front is at the front of the buffer. Assumes nothing.
use borrow.Author.Rules.{rules}
use Rattle.report.proofs.report.Goals as goal

pub returns : goal.returns
returns c =
    let p = c.report_files.ensures in
    record { text = p.text; printed = p.printed; put = search (rules, p.put) }
