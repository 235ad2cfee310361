use Rattle.edits.proofs.Steps.{holds-is}
use Rattle.edits.proofs.row_holds.Goals as goal

pub returns : goal.returns
returns c = let a = c.args in
    holds-is a.row.now a.first _ a.bytes.now _ c.clip.ensures c.same.ensures
