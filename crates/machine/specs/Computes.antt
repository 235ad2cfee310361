-- All that a call over maps, and the ledger of its leases, compute with, under one name: what stands under `unfolding machine_computes`
-- is proved by `refl` where it is closed.
use Rattle.text.specs.Order.{order_of}
use Rattle.text.specs.Same.{same_of, prefix_of, ends_with_of, within, hex_of, all_hex, sha256_of}
use Rattle.state.specs.Maps.{any, all, select, same_texts, lookup, insert, remove, remove_all, any_value, map_values}
use Rattle.state.specs.Sort.{put, sort}
use Rattle.state.specs.Records.{every, position_eq, reference_eq, revision_eq, identity_eq, closure_eq, lease_eq, job_eq, permit_eq, valid_context, valid_identity, valid_reference, valid_intent, valid_closure, valid_receipt}
use Rattle.machine.specs.Actions.{decide}
use Rattle.machine.specs.Next.{up, oldest, policy_for, readable_for, ran_out_before, moved}
use Rattle.machine.specs.Machine.{observe_committed_frontier, set_retention_window, observe_range_map_epoch, configure_collection_root, acquire_lease, renew_lease, release_lease, advance_lease_clock, conflicts, prepare_collection, publish_collection, abandon_collection, prepare, intent_matches, publish, pin, unpin, reserve_delete, retire_delete, act, rule, stamp, apply, validate_found, validate}
use Rattle.machine.specs.Ledger.{end_all}

unfoldable pub machine_computes : Unit {0}
unfolding order_of same_of prefix_of ends_with_of within hex_of all_hex sha256_of any all select same_texts lookup insert remove remove_all
    any_value map_values put sort every position_eq reference_eq revision_eq identity_eq closure_eq lease_eq job_eq permit_eq
    valid_context valid_identity valid_reference valid_intent valid_closure valid_receipt decide up oldest policy_for
    readable_for ran_out_before moved observe_committed_frontier set_retention_window observe_range_map_epoch configure_collection_root
    acquire_lease renew_lease release_lease advance_lease_clock conflicts prepare_collection publish_collection
    abandon_collection prepare intent_matches publish pin unpin reserve_delete retire_delete act rule stamp apply validate_found
    validate end_all
machine_computes = tt
