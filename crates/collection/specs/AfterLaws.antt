-- Contents that show a state, with another collection root or collected further, show the state with the same change.
use Rattle.std.specs.Prelude.{ℕ, ◌+◌, List, ◌≡◌, length, set, Option, Some}
use Rattle.std.proofs.Common.{ap}
use Rattle.state.specs.Maps.{Text}
use Rattle.state.specs.Records.{State}
use Rattle.state.specs.Setters.{set_physically_collected_through, set_collection_root}
use Rattle.fields.specs.Format.{enc_option, enc_text}
use Rattle.image.specs.Opened.{root_width, root_bytes, Shows}
use Rattle.image.specs.declared.TextAt.{TextAt}
use Rattle.image.specs.declared.Contents.{Contents}
use Rattle.next.specs.Kept.{with_scalars}
use Rattle.collection.specs.After.{rooted, collected_to}

module _ {x : List ℕ} {c : Contents} {s : State} (h : Shows x c s) where
  pub shows-collected : (collected : ℕ) → Shows x (collected_to c collected) (set_physically_collected_through collected s)
  shows-collected collected = record {
    version = h.version;
    numbers = ap (λ (l : List ℕ). set l 7 collected) h.numbers;
    window = h.window;
    root = h.root;
    root_size = h.root_size;
    tables = h.tables;
  }

  -- the root's text may stand in other bytes
  pub shows-rooted : (y : List ℕ) (t : Text) (root : Option TextAt) → root_bytes y root ≡ enc_option enc_text (Some t) → 1 + root_width root ≡ length (enc_option enc_text (Some t))
      → Shows y (with_scalars c (rooted c.scalars root)) (set_collection_root (Some t) s)
  shows-rooted y t root b n = record {
    version = h.version;
    numbers = h.numbers;
    window = h.window;
    root = b;
    root_size = n;
    tables = h.tables;
  }
