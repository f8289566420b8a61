-- The reply of a server that has a file, to a request for a range of it.
use Rattle.std.specs.Prelude.{ℕ, ◌+◌, ◌-◌, List, ◌++◌, length, take, drop, codes, decimal}

-- the lines of such a reply for the bytes first to last, both included, of a file of so many bytes
abbrev pub range_lines : ℕ → ℕ → ℕ → List ℕ
range_lines first last total = codes "HTTP/1.1 206 Partial Content\r\nContent-Length: " ++ decimal (last + 1 - first)
    ++ codes "\r\nContent-Range: bytes " ++ decimal first ++ codes "-" ++ decimal last ++ codes "/" ++ decimal total
    ++ codes "\r\n\r\n"

-- those bytes of a file
abbrev pub range_in : List ℕ → ℕ → ℕ → List ℕ
range_in bytes first last = take (last + 1 - first) (drop first bytes)

-- the lines, and behind them the bytes
abbrev pub range_reply : List ℕ → ℕ → ℕ → List ℕ
range_reply bytes first last = range_lines first last (length bytes) ++ range_in bytes first last
