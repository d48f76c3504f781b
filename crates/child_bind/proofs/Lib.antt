mod JoinLaws
mod SourcePlaces
