use mathlib.Core.Path.{ap, ◌∙◌}
use Prim.Native.Nat.{◌+◌}
use Rattle.std.specs.Prelude.{◌≡◌}
use Rattle.image.specs.Front.{window_width}
use Rattle.image.specs.Placed.{after_window, scalars_from}
use Rattle.image.proofs.Steps.{after-window}
use Rattle.image.proofs.scalars_at.Goals as goal

pub returns : goal.returns
returns c =
    let a = c.args in
    let p : a.at + 33 + c.window_width.result ≡ after_window a.s.now a.at =
    ap (λ n. a.at + 33 + n) (c.window_width.ensures ∙ ap window_width c.maybe_number_at-retention_window.ensures) ∙ after-window a.s.now a.at in
    (λ i. record {
      term = c.u64_at.ensures i;
      index = c.u64_at-2.ensures i;
      root_intent_epoch = c.u64_at-3.ensures i;
      observed_commit_frontier = c.u64_at-4.ensures i;
      retention_window = c.maybe_number_at-retention_window.ensures i;
      retention_policy_epoch = c.u64_at-5.ensures i;
      policy_floor = c.u64_at-6.ensures i;
      minimum_readable_version = c.u64_at-7.ensures i;
      physically_collected_through = c.u64_at-8.ensures i;
      lease_clock_tick = c.u64_at-9.ensures i;
      lease_epoch = c.u64_at-10.ensures i;
      range_map_epoch = c.u64_at-11.ensures i;
      collection_root = c.maybe_text_at.ensures i;
    })
    ∙ ap (scalars_from a.s.now a.at) p
