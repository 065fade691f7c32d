-- What many proofs of this crate cite, passed on from one place.
pub use Rattle.std.proofs.Common.{◌≡◌, ℕ, zero, suc, ◌<◌, ◌≤◌, List, [], ◌∷◌, ◌++◌, length, map, get_or, ap, arith, refl, All, Bool, filter, inl, inr, not, ◌||◌, Option, Some, None, Contains, Vec, ◌==◌, Global, ◌+◌, length-append, eqb, eq-eqb, flat_map, codes, ◌∙◌, sym, zip, filter_map, take, add-one, append-nil, string_bytes, decimal}
pub use Rattle.std.proofs.lemmas.Grind.{common_steps}
pub use Rattle.std.proofs.lemmas.List.Concat.{length-flat_map, flat_map-append}
pub use Rattle.std.proofs.lemmas.List.Elements.{All-head, All-map, All-tail, Contains-get_or, All-cons, All-nil, All-push, All-get_or}
pub use Rattle.std.proofs.lemmas.List.Sums.{get_or-le-sum_by, sum_by-le, count_by-le-length, length-filter}
pub use Rattle.std.proofs.lemmas.Option.{none-some, same_Some}
pub use Rattle.std.proofs.lemmas.Slice.Zip.{AllZip-long, all_zipped_more}
pub use Rattle.std.specs.List.{AllZip, cons_option}
pub use Rattle.first_reach.specs.Carried.{carried, carried_from, reached, repeats, root_first}
pub use Rattle.first_reach.specs.declared.mode.Mode.{Mode}
pub use Rattle.proto_compilation.specs.Compilation.{Compilation, bytes_at}
pub use Rattle.proto_links.specs.Linked.{count_of, reach_of, Linked}
pub use Rattle.reflect_core.specs.Answer.{Declares, Answer, IsAnswer, root_of, file, extensions, services, not_found, empty_request, extended, not_extended, listed, nothing_asked, declared, not_declared, message, no_message, named, not_named}
pub use Rattle.reflect_core.specs.Reply.{Asked, files_bytes, services_bytes, error_bytes, reply, contents_of, host_field}
pub use Rattle.reflect_core.specs.Response.{IsAsked, root, IsResponse, replies, replies_to, trailer}
pub use Rattle.reflect_core.specs.ResponseSteps.{AreReplyable, AreServicesFor, IsReplyable, IsRootWithin, asked_of, files_of, AreContentsLengths, HasContents, reply_size}
pub use Rattle.reflect_requests.specs.Frames.{IsAllowed, ReadsBody, frame}
pub use Rattle.reflect_requests.specs.ProgramFrames.{Reads, bytes_of}
pub use Rattle.reflect_requests.specs.Request.{Ask, file_by_name, file_by_symbol, file_by_extension, extension_numbers, list_services, nothing, last_of, host_of, ReadsRequest}
pub use Rattle.wire_format.specs.Field.{bytes_field}
