mod Late
