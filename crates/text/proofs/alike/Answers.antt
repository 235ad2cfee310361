use Rattle.std.proofs.Common.{◌≡◌, ◌≤◌, ◌*◌, ◌/◌, arith, rules, tests, not, length, take}
use Rattle.std.proofs.lemmas.Iterator.{YieldsList-from_slice, YieldsList-from_zip}
use Rattle.std.proofs.lemmas.Iterator.Search.{position_from_yields_List}
use Rattle.text.proofs.Heads.{first_off, heads_to}
use Rattle.std.specs.Str.{bytes_eq}
use Rattle.text.proofs.alike.Goals as goal
use Rattle.text.proofs.alike.Goals.{After-unwrap_or}

runs : (c : After-unwrap_or) → (c.unwrap_or.result ≤ length c.args.a.now / 32) × (take (c.unwrap_or.result * 32) c.args.a.now ≡ take (c.unwrap_or.result * 32) c.args.b.now)
runs c =
    let xs = c.as_chunks.result.0.now in let ys = c.as_chunks-2.result.0.now in
    let f : c.position-first.result ≡ first_off xs ys =
    position_from_yields_List (λ p. not (bytes_eq p.0 p.1)) c.position-first.new.self _ c.position-first.result c.position-first.ensures.ran (YieldsList-from_zip (YieldsList-from_slice xs cc) (YieldsList-from_slice ys cc)) (λ x b q k. search (rules, tests)) in
    heads_to 32 c.args.a.now c.args.b.now xs ys c.position-first.result c.unwrap_or.result c.requires
    c.as_chunks.ensures.front c.as_chunks.ensures.front_len c.as_chunks-2.ensures.front c.as_chunks-2.ensures.front_len f c.unwrap_or.ensures

pub overflow_mul-result : goal.overflow_mul-result
overflow_mul-result c = let h = runs c in omega arith

pub returns : goal.returns
returns c = let h = runs c in let z : c.unwrap_or.result * 32 ≡ 8 * (4 * c.unwrap_or.result) = omega arith in (omega arith, rw z at h.1)
