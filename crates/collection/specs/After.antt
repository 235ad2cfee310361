-- What the actions on the collection root and on jobs set beside the tables.
use Rattle.std.specs.Prelude.{ℕ, Option}
use Rattle.image.specs.declared.TextAt.{TextAt}
use Rattle.image.specs.declared.Scalars.{Scalars}
use Rattle.image.specs.declared.Contents.{Contents}
use Rattle.next.specs.Kept.{with_scalars}

abbrev scalars_with : Scalars → (collected : ℕ) → Option TextAt → Scalars
scalars_with n collected root = record {
  term = n.term;
  index = n.index;
  root_intent_epoch = n.root_intent_epoch;
  observed_commit_frontier = n.observed_commit_frontier;
  retention_window = n.retention_window;
  retention_policy_epoch = n.retention_policy_epoch;
  policy_floor = n.policy_floor;
  minimum_readable_version = n.minimum_readable_version;
  physically_collected_through = collected;
  lease_clock_tick = n.lease_clock_tick;
  lease_epoch = n.lease_epoch;
  range_map_epoch = n.range_map_epoch;
  collection_root = root;
}

-- another collection root
abbrev pub rooted : Scalars → Option TextAt → Scalars
rooted n root = scalars_with n n.physically_collected_through root

-- collected up to another version
abbrev pub collected_to : Contents → ℕ → Contents
collected_to c collected = with_scalars c (scalars_with c.scalars collected c.scalars.collection_root)
