-- Requests and responses with whole bodies, as a responder sees them, and what a journal says of them.
use Rattle.std.specs.Prelude.{ℕ, Option, String, Vec}
use Rattle.std.specs.declared.alloc.Global.{Global}
use Rattle.http.specs.declared.request.Request.{Request}
use Rattle.http.specs.declared.response.Response.{Response}

abbrev pub WholeRequest : Type 0
WholeRequest = Request (Vec ℕ Global)

abbrev pub WholeResponse : Type 0
WholeResponse = Response (Vec ℕ Global)

-- a line on an answer, if there is one
abbrev pub Line : Type 0
Line = Option (String Global)
