-- The ledger of leases agrees with the leases and the lease epoch of a state, and stays so as leases begin, renew and end.
-- Assumes nothing.
use Rattle.std.specs.Prelude.{ℕ, ◌≤◌, ◌<◌, ◌≡◌, refl, ◌⊎◌, false, Option, None, Some}
use Rattle.std.proofs.Common.{sym, ◌∙◌, ap, inl, inr, arith}
use mathlib.Core.List.Memᴰ
use mathlib.Core.List.{List, [], ◌∷◌, Memᴰ}
use Rattle.text.specs.SameLaws.{same_refl}
use Rattle.state.specs.Maps.{Text, Map, same, lookup, insert, remove, remove_all, map_values}
use Rattle.state.proofs.MapLaws.{no_way, option_clash, lookup-remove, found-insert, found-remove, map-insert, map-remove, lookup-map, lookup_unmap}
use Rattle.state.specs.Records.{SnapshotClosure, SnapshotLeaseToken}
use Rattle.machine.specs.Ledger.{Lease, Ledger, with_token, put, begun, begin, renew, tokens_of, end, end_all}

-- a token given for the lease id, of this version and closure, at lease epoch e
pub record TokenOk (e : ℕ) (id : Text) (version : ℕ) (closure : SnapshotClosure) (t : SnapshotLeaseToken) : Type 0 where
  pub its_id : t.lease_id ≡ id
  pub its_version : t.snapshot_version ≡ version
  pub its_closure : t.closure ≡ closure
  pub no_newer : t.lease_epoch ≤ e

abbrev pub TokensOk : ℕ → Text → Lease → Type 0
TokensOk e id l = (t : SnapshotLeaseToken) → Memᴰ t l.tokens → TokenOk e id l.version l.closure t

-- the last token of a lease, if any was given
abbrev pub newest_in : List SnapshotLeaseToken → Option SnapshotLeaseToken
newest_in [] = None
newest_in (t ∷ ts) = Some t

abbrev pub newest : Lease → Option SnapshotLeaseToken
newest l = newest_in l.tokens

pub record Linked (leases : Map SnapshotLeaseToken) (e : ℕ) (L : Ledger) : Type 0 where
  -- the state holds the last token of each live lease, and each has one
  pub same_leases : map_values (λ t. Some t) leases ≡ map_values newest L.live
  pub tokens_ok : (id : Text) (l : Lease) → lookup id L.live ≡ Some l → TokensOk e id l
  pub no_newer : (t : SnapshotLeaseToken) → Memᴰ t L.ended → t.lease_epoch ≤ e
  -- where the id of an ended token is live again, the token in the state is newer
  pub older : (t : SnapshotLeaseToken) → Memᴰ t L.ended → (u : SnapshotLeaseToken) → lookup t.lease_id leases ≡ Some u → t.lease_epoch < u.lease_epoch

-- a live lease's last token, as the state holds it
pub record Held (leases : Map SnapshotLeaseToken) (e : ℕ) (id : Text) (l : Lease) : Type 0 where
  pub token : SnapshotLeaseToken
  pub earlier : List SnapshotLeaseToken
  pub stored : lookup id leases ≡ Some token
  pub is_last : l.tokens ≡ token ∷ earlier
  pub ok : TokenOk e id l.version l.closure token

module _ {leases : Map SnapshotLeaseToken} {e : ℕ} {L : Ledger} where
  pub raise : (e' : ℕ) → e ≤ e' → Linked leases e L → Linked leases e' L
  raise e' h k = record {
    same_leases = k.same_leases;
    tokens_ok = λ id l q t m. let o = k.tokens_ok id l q t m in record { its_id = o.its_id; its_version = o.its_version; its_closure = o.its_closure; no_newer = omega arith };
    no_newer = λ t m. omega (arith, k.no_newer t m);
    older = k.older;
  }

  -- WHAT THE ONE FINDS, the other does
  pub linked-live : (id : Text) (l : Lease) → Linked leases e L → lookup id L.live ≡ Some l → Held leases e id l
  linked-live id l k h =
      let f = lookup_unmap (λ t. Some t) id leases (newest l) (ap (lookup id) k.same_leases ∙ lookup-map newest id L.live l h) in
      go l.tokens refl f.0 f.1 f.2
    where
      go : (ts : List SnapshotLeaseToken) → l.tokens ≡ ts → (t : SnapshotLeaseToken) → lookup id leases ≡ Some t → newest_in ts ≡ Some t → Held leases e id l
      go [] p t at q = option_clash q
      go (u ∷ ts) p t at q =
          let r : u ≡ t = cc in
          record { token = u; earlier = ts; stored = at ∙ ap (λ (x : SnapshotLeaseToken). Some x) (sym r); is_last = p; ok = k.tokens_ok id l h u (rw p (Memᴰ.head refl)) }

  pub linked_some : (id : Text) (t : SnapshotLeaseToken) → Linked leases e L → lookup id leases ≡ Some t → (l : Lease) × (lookup id L.live ≡ Some l) × (h : Held leases e id l) × (h.token ≡ t)
  linked_some id t k at =
      let f = lookup_unmap newest id L.live (Some t) (sym (ap (lookup id) k.same_leases) ∙ lookup-map (λ t. Some t) id leases t at) in
      let h = linked-live id f.0 k f.1 in
      (f.0, f.1, h, one h.token h.stored)
    where
      one : (u : SnapshotLeaseToken) → lookup id leases ≡ Some u → u ≡ t
      one u q = cc

  linked-none : (id : Text) → Linked leases e L → lookup id leases ≡ None → lookup id L.live ≡ None
  linked-none id k h = go (lookup id L.live) refl
    where
      go : (o : Option Lease) → lookup id L.live ≡ o → lookup id L.live ≡ None
      go None q = q
      go (Some l) q = option_clash (sym h ∙ (linked-live id l k q).stored)

  -- a lease with a fresh token
  insert-linked : (e' : ℕ) (id : Text) (t : SnapshotLeaseToken) (l : Lease) → Linked leases e L → e ≤ e' → e < t.lease_epoch → TokensOk e' id (with_token (Some t) l)
      → Linked (insert id t leases) e' (put id (with_token (Some t) l) L)
  insert-linked e' id t l k le new ok = record {
    same_leases = map-insert (λ t. Some t) id t leases ∙ ap (insert id (Some t)) k.same_leases ∙ sym (map-insert newest id (with_token (Some t) l) L.live);
    tokens_ok = found-insert (TokensOk e') id (with_token (Some t) l) L.live ok (raise e' le k).tokens_ok;
    no_newer = λ u m. omega (arith, k.no_newer u m);
    older = λ u m x h. found-insert (λ i x. i ≡ u.lease_id → u.lease_epoch < x.lease_epoch) id t leases (λ _. omega (arith, k.no_newer u m)) (λ i x h q. k.older u m x (rw q at h)) u.lease_id x h refl;
  }

-- its first token, or one more
one_more : (e' : ℕ) (id : Text) (t : SnapshotLeaseToken) (l : Lease) → TokenOk e' id l.version l.closure t → TokensOk e' id l → TokensOk e' id (with_token (Some t) l)
one_more e' id t l ok oks u m = go (Memᴰ.cases_cons m)
  where
    go : (u ≡ t) ⊎ Memᴰ u l.tokens → TokenOk e' id l.version l.closure u
    go (inl q) = rw q ok
    go (inr m) = oks u m

module _ {leases : Map SnapshotLeaseToken} {e : ℕ} {L : Ledger} where
  pub begin-linked : (e' : ℕ) (id : Text) (v : ℕ) (c : SnapshotClosure) (t : SnapshotLeaseToken) → Linked leases e L → lookup id leases ≡ None → e ≤ e' → e < t.lease_epoch
      → TokenOk e' id v c t → Linked (insert id t leases) e' (begin id v c (Some t) L)
  begin-linked e' id v c t k h le new ok = rw (linked-none id k h) (insert-linked e' id t (begun v c None) k le new (one_more e' id t (begun v c None) ok (λ u m. absurd (Memᴰ.not-nil m))))

  pub renew-linked : (e' : ℕ) (id : Text) (old t : SnapshotLeaseToken) → Linked leases e L → lookup id leases ≡ Some old → e ≤ e' → e < t.lease_epoch
      → TokenOk e' id old.snapshot_version old.closure t → Linked (insert id t leases) e' (renew id (Some t) L)
  renew-linked e' id old t k h le new ok =
      let f = linked_some id old k h in
      let l = f.0 in
      let v : old.snapshot_version ≡ l.version = ap (λ (x : SnapshotLeaseToken). x.snapshot_version) (sym f.3) ∙ f.2.ok.its_version in
      let c : old.closure ≡ l.closure = ap (λ (x : SnapshotLeaseToken). x.closure) (sym f.3) ∙ f.2.ok.its_closure in
      let now : TokenOk e' id l.version l.closure t = rw (← v, ← c) ok in
      rw f.1 (insert-linked e' id t l k le new (one_more e' id t l now ((raise e' le k).tokens_ok id l f.1)))

  ended-ok : (id : Text) → Linked leases e L → (t : SnapshotLeaseToken) → Memᴰ t (tokens_of (lookup id L.live)) → (t.lease_id ≡ id) × (t.lease_epoch ≤ e)
  ended-ok id k t = go (lookup id L.live) refl
    where
      go : (o : Option Lease) → lookup id L.live ≡ o → Memᴰ t (tokens_of o) → (t.lease_id ≡ id) × (t.lease_epoch ≤ e)
      go None q m = absurd (Memᴰ.not-nil m)
      go (Some l) q m = let o = k.tokens_ok id l q t m in (o.its_id, o.no_newer)

  pub end-linked : (id : Text) → Linked leases e L → Linked (remove id leases) e (end id L)
  end-linked id k = record {
    same_leases = map-remove (λ t. Some t) id leases ∙ ap (remove id) k.same_leases ∙ sym (map-remove newest id L.live);
    tokens_ok = found-remove (TokensOk e) id L.live k.tokens_ok;
    no_newer = λ t m. new t (Memᴰ.append_cases (tokens_of (lookup id L.live)) m);
    older = λ t m u h. old t (Memᴰ.append_cases (tokens_of (lookup id L.live)) m) u (lookup-remove t.lease_id id u leases h);
  }
    where
      new : (t : SnapshotLeaseToken) → Memᴰ t (tokens_of (lookup id L.live)) ⊎ Memᴰ t L.ended → t.lease_epoch ≤ e
      new t (inl m) = (ended-ok id k t m).1
      new t (inr m) = k.no_newer t m

      old : (t : SnapshotLeaseToken) → Memᴰ t (tokens_of (lookup id L.live)) ⊎ Memᴰ t L.ended → (u : SnapshotLeaseToken) → (same t.lease_id id ≡ false) × (lookup t.lease_id leases ≡ Some u) → t.lease_epoch < u.lease_epoch
      old t (inl m) u h = no_way (ap (λ (x : Text). same x id) (ended-ok id k t m).0 ∙ same_refl id) h.0
      old t (inr m) u h = k.older t m u h.1

pub end_all-linked : {leases : Map SnapshotLeaseToken} {e : ℕ} {L : Ledger} (ids : List Text) → Linked leases e L → Linked (remove_all ids leases) e (end_all ids L)
unfolding remove_all end_all
end_all-linked [] k = k
end_all-linked {leases = leases} {e = e} {L = L} (id ∷ ids) k = end_all-linked {leases = remove id leases} {e = e} {L = end id L} ids (end-linked id k)
