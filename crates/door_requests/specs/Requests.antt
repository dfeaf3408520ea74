-- Which ask a request makes: each call's number, in the order of "The calls", behind reset and the setting of the marks; then the requests' calls.
use Rattle.std.specs.Prelude.{ℕ, List, [], ◌∷◌, get_or}
use Rattle.base_calls.specs.declared.{Call.Call, Ask.Ask, Ask.TheVariants.Host, Ask.TheVariants.Marks, Ask.TheVariants.Reset, Ask.TheVariants.Unreadable}
use Rattle.door_requests.specs.declared.Request.{Request}

-- call 0, call 1 and so on, each with the operands that it reads
abbrev pub asks : Request → List Ask
asks r =
    Reset
    ∷ Marks r.raise r.clear
    ∷ Host (Call.Create r.frame r.key)
    ∷ Host (Call.KeyConfig r.domain)
    ∷ Host (Call.AddCx r.domain r.frame)
    ∷ Host (Call.Init r.domain)
    ∷ Host (Call.SeptAdd r.domain r.gpa r.level r.frame)
    ∷ Host (Call.PageAdd r.domain r.gpa r.frame)
    ∷ Host (Call.Finalize r.domain)
    ∷ Host (Call.PageAug r.domain r.gpa r.frame)
    ∷ Host (Call.Block r.domain r.gpa r.level)
    ∷ Host (Call.Track r.domain)
    ∷ Host (Call.Unblock r.domain r.gpa r.level)
    ∷ Host (Call.PageRemove r.domain r.gpa)
    ∷ Host (Call.SeptRemove r.domain r.gpa r.level)
    ∷ Host (Call.FlushDone r.domain)
    ∷ Host (Call.KeyFree r.domain)
    ∷ Host (Call.Reclaim r.frame)
    ∷ Host (Call.ReadPage r.frame)
    ∷ Host (Call.ReadEntry r.domain r.gpa r.level)
    ∷ Host Call.CacheWb
    ∷ []

-- a number past the last names nothing
unfoldable pub ask_at : Request → ℕ → Ask
ask_at r n = get_or (asks r) n Unreadable

abbrev pub ask_for : Request → Ask
ask_for r = ask_at r r.call
