use native.Mathlib.Omega.{arith}
use Rattle.std.specs.Prelude.{take, drop}
use Rattle.image.specs.Opened.{numbers_in}
use Rattle.image.proofs.FrontLaws.{window_narrow, window-size}
use Rattle.image.proofs.FrontSteps.{length-words, scalars-laid}
use Rattle.image.proofs.put_scalars.Goals as goal

pub put_window-q-requires : goal.put_window-q-requires
put_window-q-requires c = omega (arith, c.put_numbers-p.ensures.place, length-words (take 4 (numbers_in c.args.n.now)))

pub put_numbers-r-requires : goal.put_numbers-r-requires
put_numbers-r-requires c =
    let n = c.args.n.now in
    omega (arith, c.put_numbers-p.ensures.place, c.put_window-q.ensures.place, length-words (take 4 (numbers_in n)), window-size n.retention_window, window_narrow n.retention_window)

pub put_root-requires : goal.put_root-requires
put_root-requires c =
    let n = c.args.n.now in
    omega (arith, c.put_numbers-p.ensures.place, c.put_window-q.ensures.place, c.put_numbers-r.ensures.place, length-words (take 4 (numbers_in n)), window-size n.retention_window, window_narrow n.retention_window, length-words (drop 4 (numbers_in n)))

pub returns : goal.returns
returns c = scalars-laid c.args.x.now c.args.n.now c.put_numbers-p.ensures c.put_window-q.ensures c.put_numbers-r.ensures c.put_root.ensures c.requires.room c.requires.root
