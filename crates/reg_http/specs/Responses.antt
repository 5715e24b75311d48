-- The bytes of a response.
use Rattle.std.specs.Prelude.{ℕ, Bool, List, [], ◌∷◌, ◌++◌, length, Option, Some, None, ◌==◌}
use Rattle.std.specs.Prelude.{IsTrue, codes, decimal, unwrap_or, if◌then◌else◌}
use Rattle.std.specs.List.{list_any}
use Rattle.http.specs.StatusCode.{reason_phrase}

-- the statuses that a response may have
abbrev pub statuses : List ℕ
statuses = 200 ∷ 400 ∷ 403 ∷ 404 ∷ 405 ∷ 409 ∷ 411 ∷ 413 ∷ 431 ∷ 500 ∷ 501 ∷ 503 ∷ []

abbrev pub IsStatus : ℕ → Type 0
IsStatus status = IsTrue (list_any (λ known. known == status) statuses)

-- the phrase of a status
unfoldable pub phrase : ℕ → List ℕ
phrase status = unwrap_or (reason_phrase status) []

-- the method that is allowed, where one is told
abbrev pub allow_line : Option (List ℕ) → List ℕ
allow_line None = []
allow_line (Some method) = codes "Allow: " ++ method ++ codes "\r\n"

-- whether the connection closes
abbrev pub close_line : Bool → List ℕ
close_line close = if close then codes "Connection: close\r\n" else []

-- the status line, and the lines on the body
unfoldable pub first_lines : ℕ → ℕ → List ℕ
first_lines status size =
    codes "HTTP/1.1 " ++ decimal status ++ codes " " ++ phrase status ++ codes "\r\n"
    ++ codes "Content-Type: application/json\r\n"
    ++ codes "Content-Length: " ++ decimal size ++ codes "\r\n"

-- a response
abbrev pub response : ℕ → Option (List ℕ) → Bool → List ℕ → List ℕ
response status allow close body =
    first_lines status (length body) ++ allow_line allow ++ close_line close ++ codes "\r\n" ++ body
