-- Contents with other tables, at another revision, and with the root intent epoch raised.
use Rattle.std.specs.Prelude.{ℕ, List}
use Rattle.image.specs.declared.Table.{Table}
use Rattle.image.specs.declared.Scalars.{Scalars}
use Rattle.image.specs.declared.Contents.{Contents}
use Rattle.machine.specs.Next.{up}
use Rattle.requests.specs.declared.AuthorityPosition.{AuthorityPosition}

abbrev pub with_tables : Contents → List Table → Contents
with_tables c ts = record { format_version = c.format_version; scalars = c.scalars; tables = ts }

-- the scalars at a revision and a root intent epoch
abbrev scalars_at : Scalars → AuthorityPosition → ℕ → Scalars
scalars_at n p epoch = record {
  term = p.term;
  index = p.index;
  root_intent_epoch = epoch;
  observed_commit_frontier = n.observed_commit_frontier;
  retention_window = n.retention_window;
  retention_policy_epoch = n.retention_policy_epoch;
  policy_floor = n.policy_floor;
  minimum_readable_version = n.minimum_readable_version;
  physically_collected_through = n.physically_collected_through;
  lease_clock_tick = n.lease_clock_tick;
  lease_epoch = n.lease_epoch;
  range_map_epoch = n.range_map_epoch;
  collection_root = n.collection_root;
}

abbrev pub revised_to : Contents → AuthorityPosition → ℕ → Contents
revised_to c p epoch = record { format_version = c.format_version; scalars = scalars_at c.scalars p epoch; tables = c.tables }

abbrev pub revised : Contents → AuthorityPosition → Contents
revised c p = revised_to c p c.scalars.root_intent_epoch

abbrev pub raised : Contents → AuthorityPosition → Contents
raised c p = revised_to c p (up c.scalars.root_intent_epoch)
