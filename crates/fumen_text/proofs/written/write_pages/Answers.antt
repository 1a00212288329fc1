-- One more page is written, and then all are.
use Rattle.std.proofs.Common.{◌+◌, rules}
use Rattle.std.proofs.lemmas.List.{take_rest}
use Rattle.fumen_text.proofs.WriteLoop.{write_starts, write_more}
use Rattle.fumen_text.proofs.written.write_pages.Goals as goal

pub loop-i-init : goal.loop-i-init
loop-i-init c = search (rules, (write_starts c.args.dialect c.args.pages.now))

pub loop-i-preserved : goal.loop-i-preserved
loop-i-preserved c =
    search (rules, (take_rest c.args.pages.now (c.loop-i.i + 1)), (write_more c.args.dialect c.args.pages.now c.loop-i.digits.items c.loop-i.before c.loop-i.promised c.loop-i.i c.index-pages-i.result c.in_ok-promised.promised))
