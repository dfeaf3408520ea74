-- What was asked of tables looked at as u, of the tables t themselves.
use Rattle.base_rules.specs.Basics.{◌≡◌, Bool, length}
use Rattle.base_units.specs.declared.address.Hpa.{Hpa}
use Rattle.book_ledger.specs.{Sizes.sizes_ok, Tables.Tables}

pub sizes_seen : {r : Bool} {base b : Hpa} {t u : Tables} → b ≡ base → u ≡ t
    → r ≡ sizes_ok b (length u.frames) (length u.domains) (length u.stock) (length u.entries)
    → r ≡ sizes_ok base (length t.frames) (length t.domains) (length t.stock) (length t.entries)
sizes_seen e h s = rw (e, h) at s
